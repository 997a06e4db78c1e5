-- The parameters of functions behind all items of a unit.
use Rattle.std.proofs.Common.{◌≡◌, ◌∙◌, ℕ, zero, suc, List, [], ◌∷◌, ◌++◌, Option, Some, None, option_map, slice_get, append_assoc, refl}
use Rattle.std.proofs.Common.{sym, ap, subst}
use Rattle.std.specs.Prelude.{option_and_then}
use Rattle.std.proofs.lemmas.List.{append-nil}
use Rattle.std.proofs.lemmas.List.Elements.{All-nil}
use Rattle.tsa_tree.specs.declared.kind.ThingType.{ThingType}
use Rattle.tsa_tree.specs.types.Scopes.{Scope, FunctionEntry}
use Rattle.tsa_tree.specs.types.Units.{outset, behind_item}
use Rattle.tsa_tree.specs.units.Syntax.{UnitItem}
use Rattle.tsa_tree.specs.types.Lookups.{params_in}
use Rattle.tsa_place_model.specs.Calls.{Layout}
use Rattle.tsa_core.specs.Programs.{Declared, declared_by, declared_functions, function_in}
use Rattle.tsa_core.proofs.MappedLists.{map_at}
use Rattle.tsa_core.proofs.SignaturesFit.{Agree, HasItsResult, entry_signed, own_signed, item_agree}
use Rattle.tsa_core.proofs.TypedTerms.{some_same}
use Rattle.tsa_profile.specs.Arguments.{behind_items}
use Rattle.tsa_profile.specs.ArgumentLaws.{ParametersAreThoseOfTheCore}

-- behind all items functions are those that are declared, in order
all_agree : (ds : List Declared) (here : Scope) (items : List UnitItem) → Agree ds here → Agree (ds ++ declared_functions here items) (behind_items here items)
unfolding behind_items declared_functions
all_agree ds here [] h = subst (λ xs. Agree xs here) (sym (append-nil ds)) h
all_agree ds here (item ∷ rest) h =
    subst (λ xs. Agree xs (behind_items (behind_item here item) rest)) (append_assoc ds (declared_by here item) (declared_functions (behind_item here item) rest))
    (all_agree (ds ++ declared_by here item) (behind_item here item) rest (item_agree ds here item h))

none_at : (n : ℕ) → ◌≡◌ {A = Option ThingType} (slice_get [] n) None
none_at zero = refl
none_at (suc n) = refl

module _ (l : Layout) (items : List UnitItem) (number : ℕ) where
  abbrev listed : Option FunctionEntry → List ThingType
  listed None = []
  listed (Some f) = f.params

  abbrev of_core : Option Declared → Option ThingType
  of_core d = option_and_then (λ f. slice_get f.params number) (option_map (function_in l items) d)

  same_at : (o : Option FunctionEntry) (d : Option Declared) → option_map entry_signed o ≡ option_map own_signed d → slice_get (listed o) number ≡ of_core d
  same_at None None same = none_at number
  same_at None (Some d) same = absurd cc
  same_at (Some f) None same = absurd cc
  same_at (Some f) (Some d) same = ap (λ s. slice_get s.0 number) (some_same same)

  same_params : (ds : List Declared) (here : Scope) (function : ℕ) → Agree ds here → slice_get (params_in here function) number ≡ of_core (slice_get ds function)
  same_params ds here function h =
      same_at (slice_get here.functions function) (slice_get ds function)
      (sym (map_at entry_signed here.functions function) ∙ ap (λ xs. slice_get xs function) h.0 ∙ map_at own_signed ds function)

pub parameters_are_those : ParametersAreThoseOfTheCore
parameters_are_those items l p =
    let ds = declared_functions (outset items) items in
    same_params l items p.number ds (behind_items (outset items) items) p.function (all_agree [] (outset items) items (refl, All-nil (HasItsResult [])))
    ∙ sym (ap (option_and_then (λ f. slice_get f.params p.number)) (map_at (function_in l items) ds p.function))
