-- What an expression is worth as the initialiser of a further global is a value of the global's kind.
use Rattle.std.proofs.Common.{◌≡◌, ◌∙◌, ℕ, Bool, true, false, not, ◌&&◌, ◌||◌, List, [], ◌∷◌, ◌++◌, map, Option, Some, None, is_none, if◌then◌else◌}
use Rattle.std.proofs.Common.{refl, sym, ap, subst}
use Rattle.tsa_base.specs.declared.value.Value.{Value}
use Rattle.tsa_tree.specs.declarations.Syntax.{value}
use Rattle.tsa_tree.specs.declared.kind.ExpressionType.{ExpressionType}
use Rattle.tsa_tree.specs.declared.kind.Kind.{Kind}
use Rattle.tsa_tree.specs.declared.kind.Kind.TheVariants as type
use Rattle.tsa_tree.specs.declared.kind.ThingType.{ThingType}
use Rattle.tsa_tree.specs.declared.premise.TypeCode.TheVariants.{TY9}
use Rattle.tsa_tree.specs.expressions.Sound.{Words, is_sound}
use Rattle.tsa_tree.specs.expressions.Syntax.{Expression}
use Rattle.tsa_tree.specs.points.Syntax.{expression_span}
use Rattle.tsa_tree.specs.types.Expressions.{type_of, premises_of, known_and}
use Rattle.tsa_tree.specs.types.Globals.{global_init}
use Rattle.tsa_tree.specs.types.Initialisers.{is_constant_for, cell_premises, initialiser_premises}
use Rattle.tsa_tree.specs.types.Operands.{goes_to, is_integer, is_single}
use Rattle.tsa_tree.specs.types.Premises as types
use Rattle.tsa_tree.specs.types.Premises.{premise}
use Rattle.tsa_tree.specs.types.Scopes.{Scope, context_of}
use Rattle.tsa_tree.specs.types.Units.{outset, refusal_of_types}
use Rattle.tsa_tree.specs.units.Sound.{SpellableItems}
use Rattle.tsa_tree.specs.units.Syntax.{UnitItem}
use Rattle.tsa_place_model.specs.Calls.{Layout, is_structure, is_addressable}
use Rattle.tsa_place_model.specs.GlobalPlaces.{no_places, values_in}
use Rattle.tsa_place_model.specs.Leading.{HasPlaces}
use Rattle.tsa_place_model.specs.Stores.{is_value_of}
use Rattle.tsa_core.proofs.KindTests.{both_true, not_false}
use Rattle.tsa_core.proofs.NoFailure.{keeps_typed, none_of_first}
use Rattle.tsa_core.proofs.NoFailure as typed
use Rattle.tsa_core.proofs.TypedTerms.{some_same}
use Rattle.tsa_core.specs.Programs.{Attr, program_with}
use Rattle.tsa_profile.specs.Arguments.{behind_unit, is_in_profile, is_typed, value_seen, view_with, view_behind}
use Rattle.tsa_profile.specs.ArgumentLaws.{SeenValuesAreOfTheirTypes}
use Rattle.tsa_profile_accesses.specs.Premises as profile
use Rattle.tsa_profile_items.specs.Declarations.{init_premises}
use Rattle.tsa_profile_items.specs.Units as units
use Rattle.tsa_profile_items.specs.Units.{Unit, unit_of, tries_limits, paths_limits, refusal_of_profile}
use Rattle.tsa_profile.proofs.CellsFit.{Allows, init_good}
use Rattle.tsa_profile.proofs.EndingScopes.{constant_there, data_behind}
use Rattle.tsa_profile.proofs.GoodValues.{is_data, good}
use Rattle.tsa_profile.proofs.InitialisersFit.{Fit}
use Rattle.tsa_profile.proofs.ProfileAllows.{none_of_both, allowed_all, allowed_initialiser}
use Rattle.tsa_profile.proofs.StartLaws.{begins, layout_is, value_same}
use Rattle.tsa_profile.proofs.StartsTyped.{AllowedAll, State, ending, extends_same, last_state}

none_holds : (a b c : Bool) → ((a && false) || ((b && false) || (c && false))) ≡ true → ⊥
none_holds true true true e = cc
none_holds true true false e = cc
none_holds true false true e = cc
none_holds true false false e = cc
none_holds false true true e = cc
none_holds false true false e = cc
none_holds false false true e = cc
none_holds false false false e = cc

-- a cell is a number or a pointer
data_where : (t : ExpressionType) (thing : ThingType) → goes_to t thing ≡ true → (is_data thing.kind ≡ true) × (is_structure thing.kind ≡ false)
data_where t thing goes = by thing.kind thing.length thing.is_const goes
  where
    other : (kind : Kind) (n : Option ℕ) (c : Bool) → ((is_integer t && false) || ((t.is_zero && false) || (is_single t && false))) ≡ true → (is_data kind ≡ true) × (is_structure kind ≡ false)
    other kind n c holds = absurd (none_holds (is_integer t) t.is_zero (is_single t) holds)

    by : (kind : Kind) (n : Option ℕ) (c : Bool) → goes_to t (record { kind = kind; length = n; is_const = c }) ≡ true → (is_data kind ≡ true) × (is_structure kind ≡ false)
    by type.Int n c goes = (refl, refl)
    by type.Unsigned n c goes = (refl, refl)
    by (type.Pointer struct to_const) n c goes = (refl, refl)
    by (type.Structure n) m c goes = other (type.Structure n) m c (both_true (is_none m) ((is_integer t && false) || ((t.is_zero && false) || (is_single t && false))) goes).1
    by type.Void n c goes = other (type.Void) n c (both_true (is_none n) ((is_integer t && false) || ((t.is_zero && false) || (is_single t && false))) goes).1
    by type.Null n c goes = other (type.Null) n c (both_true (is_none n) ((is_integer t && false) || ((t.is_zero && false) || (is_single t && false))) goes).1
    by type.Function n c goes = other (type.Function) n c (both_true (is_none n) ((is_integer t && false) || ((t.is_zero && false) || (is_single t && false))) goes).1

no_length : (n : Option ℕ) → is_none n ≡ true → n ≡ None
no_length None h = refl
no_length (Some k) h = absurd cc

-- both tests hold where a value is seen, and this is it
seen_where : (a b : Bool) (v x : Value) → (if a && b then Some v else None) ≡ Some x → ((a ≡ true) × (b ≡ true)) × (v ≡ x)
seen_where true true v x h = ((refl, refl), some_same h)
seen_where true false v x h = absurd cc
seen_where false b v x h = absurd cc

none_where : {A : Type 0} (f : Option A) → is_none f ≡ true → f ≡ None
none_where None h = refl
none_where (Some f) h = absurd cc

module _ (items : List UnitItem) (l : Layout) (sound : SpellableItems items) (typed_all : refusal_of_types items ≡ None) (profiled : refusal_of_profile items ≡ None) (has : HasPlaces items l) where
  abbrev here : Scope
  here = behind_unit items

  abbrev there : Scope
  there = data_behind (outset items) items

  abbrev unit : Unit
  unit = unit_of [] items

  allowed : AllowedAll is_addressable l (outset items) items
  allowed =
      let told =
      none_of_both (units.items_premises unit [] (outset items) items) (tries_limits unit [] (outset items) items ++ paths_limits unit [] (outset items) items) profiled in
      subst (λ whole. AllowedAll is_addressable whole (outset items) items) (layout_is items l has) (allowed_all unit [] (outset items) items told.0)

  state : State is_addressable l here there l
  state = last_state is_addressable l items (outset items) (outset items) no_places (begins is_addressable items l) typed_all sound allowed has

  module _ (words : Words) (thing : ThingType) (e : Expression) (well : is_sound words e ≡ true) where
    -- the profile lets it point where it points
    allows : (known : List (List Attr)) → is_in_profile (view_with known l here) e ≡ true → Allows is_addressable l here e
    allows known h =
        subst (λ whole. Allows is_addressable whole here e) (layout_is items l has)
        (allowed_initialiser unit known here (value e)
        (sym (ap (λ whole. profile.first (init_premises (view_with known whole here) (value e))) (sym (layout_is items l has))) ∙ none_where (profile.first (init_premises (view_with known l here) (value e))) h))

    abbrev is_told : ExpressionType → Bool
    is_told x = goes_to x thing && is_constant_for (context_of here) here.globals thing.kind e

    -- a typed initialiser goes to its thing, and is a constant for it
    told : types.first (global_init here here.globals thing (Some (value e))) ≡ None → (x : ExpressionType) × (is_told x ≡ true)
    unfolding initialiser_premises cell_premises
    told h =
        let c = context_of here in
        let both = typed.none_of_both (premises_of c e) (premise TY9 (expression_span e) (known_and (λ x. not (is_told x)) (type_of c e)) ∷ []) h in
        let x = keeps_typed c e both.0 in
        let no = (none_of_first TY9 (expression_span e) (known_and (λ x. not (is_told x)) (type_of c e)) [] both.1).0 in
        (x.0, not_false (is_told x.0) (sym (ap (known_and (λ x. not (is_told x))) x.1) ∙ no))

    seen : (x : Value) → value_seen (view_behind items l) thing e ≡ Some x → is_value_of l thing.kind x ≡ true
    seen x h =
        let parts = seen_where (is_typed here thing e) (is_in_profile (view_behind items l) e) (values_in here l thing.kind (Some (value e))) x h in
        let premises = none_where (types.first (global_init here here.globals thing (Some (value e)))) parts.0.0 in
        let t = told premises in
        let goes = both_true (goes_to t.0 thing) (is_constant_for (context_of here) here.globals thing.kind e) t.1 in
        let cell = data_where t.0 thing goes.0 in
        let fit : Fit here here.globals words (Allows is_addressable l here) thing (Some (value e)) =
        record { declared = cell.0; premises = premises; sound = well; allowed = allows (map (λ f. f.attrs) (program_with l items).functions) parts.0.1 } in
        value_same l thing.kind x
        ∙ ap (good is_addressable l.places thing.kind) (sym parts.1 ∙ sym (constant_there here there state.alike l here.globals thing.kind e goes.1))
        ∙ init_good here there l l here.globals (ending is_addressable l here there l state (extends_same l)) state.plain words is_addressable thing (Some (value e))
        (no_length thing.length (both_true (is_none thing.length) _ goes.0).0) cell.1 fit

pub seen_values_are_of_their_types : SeenValuesAreOfTheirTypes
seen_values_are_of_their_types items l words thing e x sound typed_all profiled has well h = seen items l sound typed_all profiled has words thing e well x h
