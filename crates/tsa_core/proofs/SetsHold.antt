-- Left sides are locals or places, and what is set to them has their kinds.
use Rattle.std.proofs.Common.{◌≡◌, ◌∙◌, ℕ, Bool, true, false, not, ◌&&◌, ◌||◌, Option, Some, None, is_some, option_and_then, if◌then◌else◌}
use Rattle.std.proofs.Common.{refl, sym, ap, subst}
use Rattle.tsa_tree.specs.declared.expr.BinaryOp.{BinaryOp}
use Rattle.tsa_tree.specs.declared.expr.BinaryOp.TheVariants as op
use Rattle.tsa_tree.specs.declared.kind.ExpressionType.{ExpressionType}
use Rattle.tsa_tree.specs.declared.kind.Kind.{Kind}
use Rattle.tsa_tree.specs.declared.kind.Kind.TheVariants as type
use Rattle.tsa_tree.specs.declared.kind.ThingType.{ThingType}
use Rattle.tsa_tree.specs.declared.meaning.Meaning.{Meaning}
use Rattle.tsa_tree.specs.declared.meaning.Meaning.TheVariants as meant
use Rattle.tsa_tree.specs.statements.Sound.{is_assigning}
use Rattle.tsa_tree.specs.types.Operands.{integer_kind, unsigned_kind, is_single, is_integer, lacks, breaks_integers, breaks_bits}
use Rattle.tsa_tree.specs.types.Operands.{breaks_binary, either_unsigned, binary_type, common}
use Rattle.tsa_tree.specs.types.Simple.{is_written_to, written_type}
use Rattle.tsa_core.specs.Bodies.{zero_term, set_to}
use Rattle.tsa_core.specs.Kinds.{Setting, scalar_kind, if_so, both_integers, binary_kind, cell_kind, place_type, value_kind}
use Rattle.tsa_core.specs.Meanings.{is_place, is_cell, is_structure, loaded, name_term, of_name, to_member}
use Rattle.tsa_core.specs.PointKinds.{ServesScalar, is_number, Joins, Sets, IsCellOf, ActionHolds}
use Rattle.tsa_core.specs.Terms.{Term, constant, variable, answer, global, member, element, target, load, address, converted, prefixed}
use Rattle.tsa_core.specs.Terms.{joined, Sense}
use Rattle.tsa_core.proofs.KindTests.{both_true, neither, not_false, not_true, one_of, or_left, and_true, single_length, common_integer}
use Rattle.tsa_core.proofs.KindTests.{scalar_plain, so, integer_is}
use Rattle.tsa_core.proofs.KindsOfOperators.{Holds, integer_loaded}
use Rattle.tsa_base.proofs.Truths.{never, or_right}

pub passes_typed : (test : ExpressionType → Bool) (o : Option ExpressionType) (t : ExpressionType) → o ≡ Some t → lacks test o ≡ false → test t ≡ true
passes_typed test o t is h = not_false (test t) (subst (λ p. lacks test p ≡ false) is h)

-- a left side is a local or a place
abbrev pub is_left : Term → Bool
is_left (variable n) = true
is_left x = is_place x

pub left_name : (m : Meaning) (t : ThingType) → (of_name (Some (record { meaning = m; thing = t }))).type.is_place ≡ true → (m ≡ meant.Owned → ⊥) → is_left (name_term m) ≡ true
left_name (meant.Global n) t e h = refl
left_name (meant.Local n) t e h = refl
left_name (meant.Function n) t e h = never (sym e)
left_name meant.Owned t e h = absurd (h refl)
left_name (meant.Constant z) t e h = never (sym e)
left_name meant.TypeName t e h = never (sym e)

pub left_member : (arrow : Bool) (s : Sense) (m : Option (ℕ × ThingType)) → (to_member arrow s m).type.is_place ≡ true → is_left (to_member arrow s m).term ≡ true
left_member arrow s None e = never (sym e)
left_member arrow s (Some m) e = refl

pub value_binary : (o : BinaryOp) (a b : ExpressionType) → (binary_type o a b).is_place ≡ false
value_binary op.Or a b = refl
value_binary op.And a b = refl
value_binary op.BitOr a b = refl
value_binary op.BitXor a b = refl
value_binary op.BitAnd a b = refl
value_binary op.Equal a b = refl
value_binary op.Unequal a b = refl
value_binary op.Less a b = refl
value_binary op.More a b = refl
value_binary op.LessEqual a b = refl
value_binary op.MoreEqual a b = refl
value_binary op.Plus a b = refl
value_binary op.Minus a b = refl
value_binary op.Times a b = refl
value_binary op.Divide a b = refl
value_binary op.Remainder a b = refl

module _ (k : Setting) where
  pub zero_serves : (kind : Kind) → ServesScalar k (zero_term kind) kind
  zero_serves type.Int e = (type.Int, (refl, refl))
  zero_serves type.Unsigned e = (type.Unsigned, (refl, refl))
  zero_serves (type.Pointer n c) e = (type.Null, (refl, refl))
  zero_serves type.Null e = (type.Null, (refl, refl))
  zero_serves type.Void e = never (sym e)
  zero_serves (type.Structure n) e = never (sym e)
  zero_serves type.Function e = never (sym e)

  -- what is loaded is there
  pub loaded_there : (s : Sense) → Holds k s.term s.type → (is_some (place_type k (loaded s)) || is_some (value_kind k (loaded s))) ≡ true
  loaded_there s h = by s.term s.is_stable s.type.thing (is_place s.term) (is_cell s.type.thing) refl refl h.place h.there
    where
      by : (x : Term) (stable : Bool) (t : ThingType) (p c : Bool) → is_place x ≡ p → is_cell t ≡ c → (p ≡ true → place_type k x ≡ Some t) → (p ≡ false → is_some (value_kind k x) ≡ true)
          → (is_some (place_type k (if p && c then load stable x else x)) || is_some (value_kind k (if p && c then load stable x else x))) ≡ true
      by x stable t true true e f place there = ap (λ o. is_some (option_and_then cell_kind o)) (place refl) ∙ ap is_some (so (is_cell t) t.kind f)
      by x stable t true false e f place there = or_left (is_some (place_type k x)) (is_some (value_kind k x)) (ap is_some (place refl))
      by x stable t false c e f place there = or_right (is_some (place_type k x)) (is_some (value_kind k x)) (there refl)

  -- a left side that is written
  module _ (result : Kind) (o : Option BinaryOp) (right : Term) where
    cell_of : (x : Term) (t : ExpressionType) → is_place x ≡ true → Holds k x t → is_written_to t ≡ true → is_single t ≡ true → scalar_kind t.thing.kind ≡ true → IsCellOf k t.thing.kind x
    cell_of x t is h written one scalar = (
      t.thing,
      (
        h.place is,
        (
          so (is_cell t.thing) t.thing.kind (cell_is t.thing.length (is_structure t.thing.kind) (single_length t one) (scalar_plain t.thing.kind scalar).0),
          not_true t.thing.is_const (both_true t.is_place (not t.thing.is_const) written).1,
        ),
      ),
    )
      where
        cell_is : (l : Option ℕ) (b : Bool) → l ≡ None → b ≡ false → (not (is_some l) && not b) ≡ true
        cell_is None false e f = refl
        cell_is None true e f = never f
        cell_is (Some n) b e f = absurd cc

    pub set_holds : (x : Term) (t : ExpressionType) → is_left x ≡ true → Holds k x t → is_written_to t ≡ true → is_single t ≡ true → scalar_kind t.thing.kind ≡ true
        → Sets k o t.thing.kind right → ActionHolds k result (set_to x o t.thing.kind right)
    set_holds (variable n) t is h written one scalar sets = (h.value refl (scalar_plain t.thing.kind scalar).1, sets)
    set_holds (global n) t is h written one scalar sets = (cell_of (global n) t is h written one scalar, sets)
    set_holds (member base n) t is h written one scalar sets = (cell_of (member base n) t is h written one scalar, sets)
    set_holds (element base i) t is h written one scalar sets = (cell_of (element base i) t is h written one scalar, sets)
    set_holds (target p) t is h written one scalar sets = (cell_of (target p) t is h written one scalar, sets)
    set_holds (constant v) t is h written one scalar sets = never (sym is)
    set_holds answer t is h written one scalar sets = never (sym is)
    set_holds (load stable p) t is h written one scalar sets = never (sym is)
    set_holds (address p) t is h written one scalar sets = never (sym is)
    set_holds (converted to x) t is h written one scalar sets = never (sym is)
    set_holds (prefixed u x) t is h written one scalar sets = never (sym is)
    set_holds (joined b x y) t is h written one scalar sets = never (sym is)

  -- what an operator before `=` makes
  number_so : (b : Bool) (kind : Kind) → b ≡ true → integer_kind kind ≡ true → is_number (if_so b kind) ≡ true
  number_so true kind e h = h
  number_so false kind e h = never (sym e)

  module _ (l r : Sense) (h : Holds k l.term l.type) (g : Holds k r.term r.type) where
    integers : breaks_integers (Some l.type) (Some r.type) ≡ false → (is_integer l.type ≡ true) × (is_integer r.type ≡ true)
    integers e = let x = neither (not (is_integer l.type)) (not (is_integer r.type)) e in (not_false (is_integer l.type) x.0, not_false (is_integer r.type) x.1)

    joins : (o : BinaryOp) → breaks_integers (Some l.type) (Some r.type) ≡ false → is_number (binary_kind o l.type.thing.kind r.type.thing.kind) ≡ true
        → (is_integer l.type ≡ true) × Joins k o l.type.thing.kind (loaded r)
    joins o e is = let i = integers e in (i.0, ((integer_is l.type i.0).1, (r.type.thing.kind, (integer_loaded k r g i.1, is))))

    arithmetic_joins : (o : BinaryOp) → breaks_integers (Some l.type) (Some r.type) ≡ false
        → is_number (if_so (both_integers l.type.thing.kind r.type.thing.kind) (common l.type.thing.kind r.type.thing.kind)) ≡ true
    arithmetic_joins o e =
        let i = integers e in
        let a = (integer_is l.type i.0).1 in
        let b = (integer_is r.type i.1).1 in
        number_so (both_integers l.type.thing.kind r.type.thing.kind) (common l.type.thing.kind r.type.thing.kind)
        (and_true (integer_kind l.type.thing.kind) (integer_kind r.type.thing.kind) a b) (common_integer l.type.thing.kind r.type.thing.kind a b)

    bits_join : (o : BinaryOp) → breaks_bits (Some l.type) (Some r.type) ≡ false
        → is_number (if_so (both_integers l.type.thing.kind r.type.thing.kind && (unsigned_kind l.type.thing.kind || unsigned_kind r.type.thing.kind)) (common l.type.thing.kind r.type.thing.kind)) ≡ true
    bits_join o e =
        let x = neither (breaks_integers (Some l.type) (Some r.type)) (not (either_unsigned l.type r.type)) e in
        let i = integers x.0 in
        let a = (integer_is l.type i.0).1 in
        let b = (integer_is r.type i.1).1 in
        let u = one_of {A = (unsigned_kind l.type.thing.kind || unsigned_kind r.type.thing.kind) ≡ true} (is_single l.type && unsigned_kind l.type.thing.kind) (is_single r.type && unsigned_kind r.type.thing.kind)
        (not_false (either_unsigned l.type r.type) x.1)
        (λ y. or_left (unsigned_kind l.type.thing.kind) (unsigned_kind r.type.thing.kind) (both_true (is_single l.type) (unsigned_kind l.type.thing.kind) y).1)
        (λ y. or_right (unsigned_kind l.type.thing.kind) (unsigned_kind r.type.thing.kind) (both_true (is_single r.type) (unsigned_kind r.type.thing.kind) y).1)
        in
        number_so (both_integers l.type.thing.kind r.type.thing.kind && (unsigned_kind l.type.thing.kind || unsigned_kind r.type.thing.kind)) (common l.type.thing.kind r.type.thing.kind)
        (and_true (both_integers l.type.thing.kind r.type.thing.kind) (unsigned_kind l.type.thing.kind || unsigned_kind r.type.thing.kind)
        (and_true (integer_kind l.type.thing.kind) (integer_kind r.type.thing.kind) a b) u) (common_integer l.type.thing.kind r.type.thing.kind a b)

    no_bits : breaks_bits (Some l.type) (Some r.type) ≡ false → breaks_integers (Some l.type) (Some r.type) ≡ false
    no_bits e = (neither (breaks_integers (Some l.type) (Some r.type)) (not (either_unsigned l.type r.type)) e).0

    pub assigned_joins : (o : BinaryOp) → is_assigning (Some o) ≡ true → breaks_binary o (Some l.type) (Some r.type) ≡ false → (is_integer l.type ≡ true) × Joins k o l.type.thing.kind (loaded r)
    assigned_joins op.Plus a e = joins op.Plus e (arithmetic_joins op.Plus e)
    assigned_joins op.Minus a e = joins op.Minus e (arithmetic_joins op.Minus e)
    assigned_joins op.Times a e = joins op.Times e (arithmetic_joins op.Times e)
    assigned_joins op.Divide a e = joins op.Divide e (arithmetic_joins op.Divide e)
    assigned_joins op.Remainder a e = joins op.Remainder e (arithmetic_joins op.Remainder e)
    assigned_joins op.BitAnd a e = joins op.BitAnd (no_bits e) (bits_join op.BitAnd e)
    assigned_joins op.BitOr a e = joins op.BitOr (no_bits e) (bits_join op.BitOr e)
    assigned_joins op.BitXor a e = joins op.BitXor (no_bits e) (bits_join op.BitXor e)
    assigned_joins op.Or a e = never (sym a)
    assigned_joins op.And a e = never (sym a)
    assigned_joins op.Equal a e = never (sym a)
    assigned_joins op.Unequal a e = never (sym a)
    assigned_joins op.Less a e = never (sym a)
    assigned_joins op.More a e = never (sym a)
    assigned_joins op.LessEqual a e = never (sym a)
    assigned_joins op.MoreEqual a e = never (sym a)

module _ (a b : ExpressionType) where
  integers_kept : (o : BinaryOp) → is_assigning (Some o) ≡ true → breaks_binary o (Some a) (Some b) ≡ false → breaks_integers (Some a) (Some b) ≡ false
  integers_kept op.Plus h e = e
  integers_kept op.Minus h e = e
  integers_kept op.Times h e = e
  integers_kept op.Divide h e = e
  integers_kept op.Remainder h e = e
  integers_kept op.BitAnd h e = (neither (breaks_integers (Some a) (Some b)) (not (either_unsigned a b)) e).0
  integers_kept op.BitOr h e = (neither (breaks_integers (Some a) (Some b)) (not (either_unsigned a b)) e).0
  integers_kept op.BitXor h e = (neither (breaks_integers (Some a) (Some b)) (not (either_unsigned a b)) e).0
  integers_kept op.Or h e = never (sym h)
  integers_kept op.And h e = never (sym h)
  integers_kept op.Equal h e = never (sym h)
  integers_kept op.Unequal h e = never (sym h)
  integers_kept op.Less h e = never (sym h)
  integers_kept op.More h e = never (sym h)
  integers_kept op.LessEqual h e = never (sym h)
  integers_kept op.MoreEqual h e = never (sym h)

  pub left_integer : (o : BinaryOp) → is_assigning (Some o) ≡ true → breaks_binary o (Some a) (Some b) ≡ false → is_integer a ≡ true
  left_integer o assigning e = not_false (is_integer a) (neither (not (is_integer a)) (not (is_integer b)) (integers_kept o assigning e)).0

  pub right_integer : (o : BinaryOp) → is_assigning (Some o) ≡ true → breaks_binary o (Some a) (Some b) ≡ false → is_integer b ≡ true
  right_integer o assigning e = not_false (is_integer b) (neither (not (is_integer a)) (not (is_integer b)) (integers_kept o assigning e)).1

pub written_is : (t : ExpressionType) → is_written_to t ≡ true → written_type (Some t) ≡ Some t
written_is t e = ap (λ b. if b then Some t else None) e
