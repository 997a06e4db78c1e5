-- The paths of functions by their numbers.
use Rattle.std.proofs.Common.{◌≡◌, ◌∙◌, ℕ, List, Option, Some, None, map, option_map, option_and_then, slice_get, refl, sym, ap}
use Rattle.std.proofs.lemmas.Option.{slice_get-map}
use Rattle.tsa_place_model.specs.Ways.{Way}
use Rattle.tsa_core.specs.Programs.{Function}

abbrev flat : Option (Option (List Way)) → Option (List Way)
flat None = None
flat (Some o) = o

module _ (paths : Function → Option (List Way)) (functions : List Function) (tables : List (Option (List Way))) (n : ℕ) (all : tables ≡ map paths functions) where
  flat_mapped : (o : Option Function) → flat (option_map paths o) ≡ option_and_then paths o
  flat_mapped None = refl
  flat_mapped (Some f) = refl

  at : (o : Option (Option (List Way))) → slice_get tables n ≡ o → flat o ≡ option_and_then paths (slice_get functions n)
  at o is = ap flat (sym is ∙ ap (λ t. slice_get t n) all ∙ slice_get-map paths functions n) ∙ flat_mapped (slice_get functions n)

  pub there : (table : List Way) → slice_get tables n ≡ Some (Some table) → Some table ≡ option_and_then paths (slice_get functions n)
  there table is = at (Some (Some table)) is

  pub empty : slice_get tables n ≡ Some None → None ≡ option_and_then paths (slice_get functions n)
  empty is = at (Some None) is

  pub past : slice_get tables n ≡ None → None ≡ option_and_then paths (slice_get functions n)
  past is = at None is

pub ruleset tables = (there, empty, past)
