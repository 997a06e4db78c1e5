-- What a typed expression gives to a cell that it initialises is a value of the cell's kind.
use Rattle.std.proofs.Common.{◌≡◌, ◌∙◌, ℕ, zero, suc, arith, nat_eq, Bool, true, false, not, ◌&&◌, ◌||◌, [], ◌∷◌, Option, Some, None}
use Rattle.std.proofs.Common.{is_some, is_none, option_map, option_and_then, slice_get, refl, sym, ap, subst}
use Rattle.std.proofs.lemmas.Bool.Decides.{nat_tests}
use Rattle.tsa_base.specs.declared.value.Value.TheVariants.{Pointer}
use Rattle.tsa_base.proofs.Truths.{never}
use Rattle.tsa_tree.specs.declarations.Syntax.{Initialiser, value, list}
use Rattle.tsa_tree.specs.declared.expr.UnaryOp.TheVariants as prefix
use Rattle.tsa_tree.specs.declared.kind.ExpressionType.{ExpressionType}
use Rattle.tsa_tree.specs.declared.kind.Kind.{Kind}
use Rattle.tsa_tree.specs.declared.kind.Kind.TheVariants as type
use Rattle.tsa_tree.specs.declared.kind.ThingType.{ThingType}
use Rattle.tsa_tree.specs.declared.number.Number.{Number}
use Rattle.tsa_tree.specs.declared.premise.TypeCode.TheVariants.{TY9}
use Rattle.tsa_tree.specs.expressions.Sound.{Words, is_sound}
use Rattle.tsa_tree.specs.expressions.Syntax.{Expression, number, null, named, call, unary, binary, field, index}
use Rattle.tsa_tree.specs.points.Syntax.{expression_span}
use Rattle.tsa_tree.specs.types.DeclaredTypes.{value_in}
use Rattle.tsa_tree.specs.types.Expressions.{type_of, premises_of, known_and, unless}
use Rattle.tsa_tree.specs.types.Initialisers.{is_constant_place, is_constant_pointer, is_constant_for, cell_premises, initialiser_premises}
use Rattle.tsa_tree.specs.types.Known.{Context}
use Rattle.tsa_tree.specs.types.Operands.{goes_to, is_struct_place, breaks_prefix, prefix_type, address_of, keeps_const, structure_of, only}
use Rattle.tsa_tree.specs.types.Premises.{first, premise}
use Rattle.tsa_tree.specs.types.Scopes.{Scope, context_of}
use Rattle.tsa_tree.specs.types.Types as typed
use Rattle.tsa_place_model.specs.LockPaths.{Led, leads}
use Rattle.tsa_place_model.specs.declared.place.Placed.{Placed}
use Rattle.tsa_place_model.specs.Calls.{Layout, is_structure, evaluated, no_locals, place_in}
use Rattle.tsa_place_model.specs.Parts.{no_stable}
use Rattle.tsa_place_model.specs.Stores.{is_of}
use Rattle.tsa_place_model.specs.Items.{or_zero}
use Rattle.tsa_place_model.specs.GlobalPlaces.{address_in, cell_value, values_in}
use Rattle.tsa_core.proofs.CaseNumbers.{value_fits, unsigned_below}
use Rattle.tsa_core.proofs.KindTests.{both_true, and_true, not_false}
use Rattle.tsa_core.proofs.NoFailure.{none_of_both, none_of_first, keeps_typed}
use Rattle.tsa_core.proofs.TypedTerms.{some_same}
use Rattle.tsa_path.proofs.ArgumentPaths.{bound}
use Rattle.tsa_path.proofs.Pointers.{spot_of}
use Rattle.tsa_path.proofs.StandDeclared.{StandsAs}
use Rattle.tsa_profile.proofs.ConstantPlaces.{Around, At, constant_place_at, one_is, way_guarded}
use Rattle.tsa_profile.proofs.GoodValues.{is_data, may, good, zero_good}
use Rattle.tsa_profile.proofs.InitialisersFit.{Fit}
use Rattle.tsa_profile.proofs.NumbersFit.{value_is_fit, int_is_int}
use Rattle.tsa_profile.proofs.SmallNames.{Plain, small_known}

-- where a constant pointer leads to something guarded or not, a pointer may point there
abbrev pub Allows : (Placed → Bool) → Layout → Scope → Expression → Type 0
Allows free whole here (unary prefix.Address inner span) =
    (own : ℕ) → is_constant_place (context_of here) own false inner ≡ true → (p : Placed) → is_structure p.kind ≡ true → p.is_guarded ≡ way_guarded whole here inner → free p ≡ true
Allows free whole here e = Unit {0}

-- the struct that a place is
struct_is : (t : ExpressionType) → is_struct_place t ≡ true → (n : ℕ) × (t.thing.kind ≡ type.Structure n)
struct_is t e = by t.thing.length t.thing.kind refl (both_true t.is_place _ e).1
  where
    by : (l : Option ℕ) (kind : Kind) → t.thing.kind ≡ kind → is_some (only (is_none l) (structure_of kind)) ≡ true → (n : ℕ) × (t.thing.kind ≡ type.Structure n)
    by None (type.Structure n) is e = (n, is)
    by None type.Int is e = never (sym e)
    by None type.Unsigned is e = never (sym e)
    by None type.Void is e = never (sym e)
    by None (type.Pointer n c) is e = never (sym e)
    by None type.Null is e = never (sym e)
    by None type.Function is e = never (sym e)
    by (Some n) kind is e = never (sym e)

abbrev cell_thing : Kind → Bool → ThingType
cell_thing kind c = record { kind = kind; length = None; is_const = c }

pointer_goes : (m n : ℕ) (c to_const k : Bool) → goes_to (typed.value (type.Pointer m c)) (cell_thing (type.Pointer n to_const) k) ≡ true
    → (nat_eq m n ≡ true) × (keeps_const (type.Pointer m c) (type.Pointer n to_const) ≡ true)
pointer_goes m n c to_const k e = both_true (nat_eq m n) _ e

const_kept : (m n : ℕ) (c to_const : Bool) → keeps_const (type.Pointer m c) (type.Pointer n to_const) ≡ true → (to_const || not c) ≡ true
const_kept m n true true e = refl
const_kept m n true false e = never (sym e)
const_kept m n false true e = refl
const_kept m n false false e = refl

module _ (here there : Scope) (l whole : Layout) (own : ℕ) (a : Around here there l whole own) (plain : Plain there) (words : Words) (free : Placed → Bool) where
  abbrev c : Context
  c = context_of here

  -- where the address of a constant place is
  place_is : (d : Led) (t : ExpressionType) (g : Bool) (place : ℕ) → At l g d t → evaluated l no_locals None d.way ≡ Some place → StandsAs l place t.thing.kind (t.thing.is_const, g)
  place_is d t g place h e =
      let b = bound place_in (spot_of l no_locals None d.way) place e in
      let p = h.ends b.0 b.1.0 in
      subst (λ x. StandsAs l x t.thing.kind (t.thing.is_const, g)) (some_same (ap place_in (sym p.1.0) ∙ b.1.1)) p.1.1

  points : (n m : ℕ) (to_const k : Bool) (place : ℕ) (kind : Kind) (const g : Bool) → kind ≡ type.Structure m → goes_to (typed.value (type.Pointer m const)) (cell_thing (type.Pointer n to_const) k) ≡ true
      → ((p : Placed) → is_structure p.kind ≡ true → p.is_guarded ≡ g → free p ≡ true) → StandsAs l place kind (const, g) → may free n to_const (slice_get l.places place) ≡ true
  points n m to_const k place kind const g is goes allowed s =
      let both = pointer_goes m n const to_const k goes in
      let struct = s.1.1.0 ∙ is in
      ap (may free n to_const) s.1.0
      ∙ and_true (free s.0) (is_of n s.0.kind && (to_const || not s.0.is_const)) (allowed s.0 (ap is_structure struct) (ap (λ x. x.1) s.1.1.1))
      (and_true (is_of n s.0.kind) (to_const || not s.0.is_const) (ap (is_of n) struct ∙ both.0)
      (ap (λ x. to_const || not x) (ap (λ x. x.0) s.1.1.1) ∙ const_kept m n const to_const both.1))

  pointer_at : (n : ℕ) (to_const : Bool) (o : Option ℕ) → ((place : ℕ) → o ≡ Some place → may free n to_const (slice_get l.places place) ≡ true)
      → good free l.places (type.Pointer n to_const) (Pointer o) ≡ true
  pointer_at n to_const None known = refl
  pointer_at n to_const (Some place) known = known place refl

  address_good : (n : ℕ) (to_const k : Bool) (inner : Expression) (x : ExpressionType) → unless (breaks_prefix prefix.Address (type_of c inner)) (option_map (prefix_type prefix.Address) (type_of c inner)) ≡ Some x
      → goes_to x (cell_thing (type.Pointer n to_const) k) ≡ true → is_constant_place c own false inner ≡ true
      → ((p : Placed) → is_structure p.kind ≡ true → p.is_guarded ≡ way_guarded whole here inner → free p ≡ true)
      → (place : ℕ) → option_and_then (λ w. evaluated l no_locals None w.way) (leads no_stable there false inner) ≡ Some place → may free n to_const (slice_get l.places place) ≡ true
  address_good n to_const k inner x is goes constant allowed place e =
      let t = one_is (prefix_type prefix.Address) (breaks_prefix prefix.Address (type_of c inner)) (type_of c inner) x is in
      let object = not_false (is_struct_place t.1.0) (subst (λ o. breaks_prefix prefix.Address o ≡ false) t.1.1.0 t.0) in
      let m = struct_is t.1.0 object in
      let b = bound (λ w. evaluated l no_locals None w.way) (leads no_stable there false inner) place e in
      let at = constant_place_at here there l whole own a false inner t.1.0 b.0 constant t.1.1.0 b.1.0 in
      let pointer : x ≡ typed.value (type.Pointer m.0 t.1.0.thing.is_const) = sym t.1.1.1 ∙ address_is t.1.0.thing.is_const t.1.0.thing.kind t.1.0.thing.length m.0 m.1 in
      points n m.0 to_const k place t.1.0.thing.kind t.1.0.thing.is_const (way_guarded whole here inner) m.1
      (subst (λ y. goes_to y (cell_thing (type.Pointer n to_const) k) ≡ true) pointer goes) allowed (place_is b.0 t.1.0 (way_guarded whole here inner) place at b.1.1)
    where
      address_is : (const : Bool) (kind : Kind) (length : Option ℕ) (m : ℕ) → kind ≡ type.Structure m
          → typed.value (address_of (record { kind = kind; length = length; is_const = const })) ≡ typed.value (type.Pointer m const)
      address_is const kind length m is = rw is refl

  pointer_good : (n : ℕ) (to_const k : Bool) (e : Expression) (x : ExpressionType) → type_of c e ≡ Some x → goes_to x (cell_thing (type.Pointer n to_const) k) ≡ true
      → is_constant_pointer c own e ≡ true → Allows free whole here e → good free l.places (type.Pointer n to_const) (Pointer (address_in there l e)) ≡ true
  unfolding leads type_of
  pointer_good n to_const k (unary prefix.Address inner span) x is goes constant allowed =
      pointer_at n to_const (option_and_then (λ w. evaluated l no_locals None w.way) (leads no_stable there false inner))
      (λ place e. address_good n to_const k inner x is goes constant (allowed own constant) place e)
  pointer_good n to_const k (null span) x is goes constant allowed = refl
  pointer_good n to_const k (number zero u span) x is goes constant allowed = refl
  pointer_good n to_const k (number (suc m) u span) x is goes constant allowed = never (sym constant)
  pointer_good n to_const k (unary prefix.Follow inner span) x is goes constant allowed = never (sym constant)
  pointer_good n to_const k (unary prefix.Minus inner span) x is goes constant allowed = never (sym constant)
  pointer_good n to_const k (unary prefix.Not inner span) x is goes constant allowed = never (sym constant)
  pointer_good n to_const k (unary prefix.Flip inner span) x is goes constant allowed = never (sym constant)
  pointer_good n to_const k (named name span) x is goes constant allowed = never (sym constant)
  pointer_good n to_const k (call callee args span) x is goes constant allowed = never (sym constant)
  pointer_good n to_const k (binary o left right span) x is goes constant allowed = never (sym constant)
  pointer_good n to_const k (field base name arrow span) x is goes constant allowed = never (sym constant)
  pointer_good n to_const k (index base at span) x is goes constant allowed = never (sym constant)

  -- numbers are converted to their cells
  int_good : (o : Option Number) (e : Expression) → is_sound words e ≡ true → value_in (context_of there) e ≡ o → good free l.places type.Int (or_zero type.Int o) ≡ true
  int_good None e sound is = refl
  int_good (Some n) e sound is =
      int_is_int n (value_is_fit (context_of there) (λ name. small_known there plain name) e n is) (value_fits (context_of there) words e n sound is)

  unsigned_good : (o : Option Number) (e : Expression) → is_sound words e ≡ true → value_in (context_of there) e ≡ o → good free l.places type.Unsigned (or_zero type.Unsigned o) ≡ true
  unsigned_good None e sound is = refl
  unsigned_good (Some n) e sound is = let less = unsigned_below n (value_fits (context_of there) words e n sound is) in grind (arith, nat_tests, less)

  cell_good : (kind : Kind) (k : Bool) (e : Expression) (x : ExpressionType) → is_data kind ≡ true → is_structure kind ≡ false → type_of c e ≡ Some x → goes_to x (cell_thing kind k) ≡ true
      → is_constant_for c own kind e ≡ true → is_sound words e ≡ true → Allows free whole here e → good free l.places kind (cell_value there l kind e) ≡ true
  cell_good type.Int k e x real plain is goes constant sound allowed = int_good (value_in (context_of there) e) e sound refl
  cell_good type.Unsigned k e x real plain is goes constant sound allowed = unsigned_good (value_in (context_of there) e) e sound refl
  cell_good (type.Pointer n to_const) k e x real plain is goes constant sound allowed = pointer_good n to_const k e x is goes constant allowed
  cell_good (type.Structure n) k e x real plain is goes constant sound allowed = never plain
  cell_good type.Void k e x real plain is goes constant sound allowed = never (sym real)
  cell_good type.Null k e x real plain is goes constant sound allowed = never (sym real)
  cell_good type.Function k e x real plain is goes constant sound allowed = never (sym real)

  value_good : (t : ThingType) (e : Expression) → t.length ≡ None → is_data t.kind ≡ true → is_structure t.kind ≡ false → first (initialiser_premises here own (Some t) (value e)) ≡ None
      → is_sound words e ≡ true → Allows free whole here e → good free l.places t.kind (cell_value there l t.kind e) ≡ true
  unfolding initialiser_premises cell_premises
  value_good t e one real plain h sound allowed =
      let both = none_of_both (premises_of c e) (premise TY9 (expression_span e) (known_and (λ x. not (goes_to x t && is_constant_for c own t.kind e)) (type_of c e)) ∷ []) h in
      let x = keeps_typed c e both.0 in
      let told = (none_of_first TY9 (expression_span e) (known_and (λ x. not (goes_to x t && is_constant_for c own t.kind e)) (type_of c e)) [] both.1).0 in
      let kept = not_false (goes_to x.0 t && is_constant_for c own t.kind e) (sym (ap (known_and (λ x. not (goes_to x t && is_constant_for c own t.kind e))) x.1) ∙ told) in
      let parts = both_true (goes_to x.0 t) (is_constant_for c own t.kind e) kept in
      cell_good t.kind t.is_const e x.0 real plain x.1 (subst (λ n. goes_to x.0 (record { kind = t.kind; length = n; is_const = t.is_const }) ≡ true) one parts.0) parts.1 sound allowed

  -- the value of a cell whose initialiser fits
  pub init_good : (t : ThingType) (init : Option Initialiser) → t.length ≡ None → is_structure t.kind ≡ false → Fit here own words (Allows free whole here) t init
      → good free l.places t.kind (values_in there l t.kind init) ≡ true
  init_good t None one plain fit = zero_good free l.places t.kind fit.declared plain
  init_good t (Some (list items span)) one plain fit = zero_good free l.places t.kind fit.declared plain
  init_good t (Some (value e)) one plain fit = value_good t e one fit.declared plain fit.premises fit.sound fit.allowed
