-- A function with a body is made of its first declaration and of the first body of its name.
use Rattle.std.proofs.Common.{◌≡◌, ◌∙◌, ℕ, zero, suc, List, [], ◌∷◌, Option, Some, None, IsSome, option_map, slice_get, refl, sym, ap}
use Rattle.std.proofs.Common.{subst}
use Rattle.tsa_tree.specs.declared.kind.ThingType.{ThingType}
use Rattle.tsa_tree.specs.points.Syntax.{ends}
use Rattle.tsa_tree.specs.expressions.Sound.{all_words}
use Rattle.tsa_tree.specs.types.Runnable.{Runnable}
use Rattle.tsa_tree.specs.types.Units.{outset, refusal_of_types}
use Rattle.tsa_tree.specs.units.Syntax.{UnitItem}
use Rattle.tsa_tree.proofs.types.UnitNodes.{premises_tell_it}
use Rattle.tsa_core.specs.Bodies.{Known, known_all, known_in_body, knows}
use Rattle.tsa_place_model.specs.Calls.{Layout}
use Rattle.tsa_core.specs.Programs.{Bodied, Declared, Function, Program, bodied_function, declared_functions, function_in, function_of}
use Rattle.tsa_core.specs.Programs.{program_of}
use Rattle.tsa_core.proofs.BodyScopes.{BeginsIn, unit_begins}
use Rattle.tsa_core.proofs.FactsKnown.{FactsAt, all_facts, each_both}
use Rattle.tsa_core.proofs.MappedLists.{map_at}
use Rattle.tsa_core.proofs.ScopesBelong.{Each}
use Rattle.tsa_core.proofs.SignaturesFit.{SpellableBody, body_spellable}
use Rattle.tsa_place_model.specs.Units.{laid_in}
use Rattle.tsa_profile.proofs.UnitsRun.{profiles_are_runnable}
use Rattle.tsa_rules.specs.Points.{function_at, or_no_function}
use Rattle.tsa_sound_accepted.specs.terms.Units.{IsInProfile}
use Rattle.tsa_base.proofs.Truths.{never}

-- A function of a unit, with its declaration and its body.
pub record MadeFunction (items : List UnitItem) (l : Layout) (n : ℕ) (f : Function) : Type 0 where
  pub declared : Declared
  pub bodied : Bodied
  pub at : slice_get (declared_functions (outset items) items) n ≡ Some declared
  pub body_at : bodied_function declared.head.name.text (outset items) items ≡ Some bodied
  pub made : function_of l declared (Some bodied) ≡ f

module _ (items : List UnitItem) (l : Layout) (in_profile : IsInProfile items l) (u : Program) (same : u ≡ program_of items) (n : ℕ) where
  functions_are : slice_get u.functions n ≡ option_map (function_in l items) (slice_get (declared_functions (outset items) items) n)
  unfolding program_of
  functions_are =
      ap (λ v. slice_get v.functions n) same
      ∙ map_at (function_in (laid_in items) items) (declared_functions (outset items) items) n
      ∙ ap (λ m. option_map (function_in m items) (slice_get (declared_functions (outset items) items) n)) in_profile.placed

  by_body : (d : Declared) → slice_get (declared_functions (outset items) items) n ≡ Some d → (o : Option Bodied)
      → bodied_function d.head.name.text (outset items) items ≡ o
      → IsSome (function_of l d o).body → MadeFunction items l n (function_of l d o)
  by_body d at None is h = never (sym h)
  by_body d at (Some b) is h = record { declared = d; bodied = b; at = at; body_at = is; made = refl }

  by_declared : (o : Option Declared) → slice_get (declared_functions (outset items) items) n ≡ o → IsSome (or_no_function (option_map (function_in l items) o)).body
      → MadeFunction items l n (or_no_function (option_map (function_in l items) o))
  by_declared None at h = never (sym h)
  by_declared (Some d) at h = by_body d at (bodied_function d.head.name.text (outset items) items) refl h

  pub function_made : IsSome (function_at u n).body → MadeFunction items l n (function_at u n)
  function_made h =
      subst (λ o. MadeFunction items l n (or_no_function o)) (sym functions_are)
      (by_declared (slice_get (declared_functions (outset items) items) n) refl (subst (λ o. IsSome (or_no_function o).body) functions_are h))

-- What typing, reading and running say of the body of a name.
module _ (items : List UnitItem) (l : Layout) (in_profile : IsInProfile items l) (name : List ℕ) (b : Bodied)
    (is : bodied_function name (outset items) items ≡ Some b)
  where
    pub typed : refusal_of_types items ≡ None
    typed = sym (premises_tell_it items) ∙ in_profile.typed

    pub runs : Runnable items
    runs = profiles_are_runnable items typed in_profile.profiled

    pub begun : BeginsIn b l
    begun = unit_begins items name b l runs in_profile.placed is

    pub text : SpellableBody b
    text = body_spellable name b (outset items) items in_profile.spellable is

    abbrev pub result : ThingType
    result = begun.around.result

    pub facts : Each (FactsAt all_words result) (known_in_body b.here b.body)
    facts =
        each_both (FactsAt all_words result) (known_all b.here b.body) (knows b.here ends ∷ [])
        (all_facts all_words result begun.around b.here b.body refl begun.typed begun.runs text) (tt, tt)

-- what holds of all points holds of one
pub each_at : (P : Known → Type 0) (ks : List Known) (n : ℕ) (k : Known) → Each P ks → slice_get ks n ≡ Some k → P k
each_at P [] n k h at = absurd cc
each_at P (x ∷ ks) zero k h at = let one : x ≡ k = cc in subst P one h.0
each_at P (x ∷ ks) (suc n) k h at = each_at P ks n k h.1 at
