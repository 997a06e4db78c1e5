-- Operators on values, `&` and `*`, and comparisons have the kinds that their types say.
use Rattle.std.proofs.Common.{◌≡◌, ◌∙◌, ℕ, Bool, true, false, ◌&&◌, ◌||◌, not, Option, Some, None, is_some, option_and_then, if◌then◌else◌}
use Rattle.std.proofs.Common.{refl, sym, ap, ap₂, subst}
use Rattle.tsa_tree.specs.declared.expr.BinaryOp.{BinaryOp}
use Rattle.tsa_tree.specs.declared.expr.BinaryOp.TheVariants as op
use Rattle.tsa_tree.specs.declared.expr.UnaryOp.{UnaryOp}
use Rattle.tsa_tree.specs.declared.expr.UnaryOp.TheVariants as prefix
use Rattle.tsa_tree.specs.declared.kind.ExpressionType.{ExpressionType}
use Rattle.tsa_tree.specs.declared.kind.Kind.{Kind}
use Rattle.tsa_tree.specs.declared.kind.Kind.TheVariants as type
use Rattle.tsa_tree.specs.declared.kind.ThingType.{ThingType}
use Rattle.tsa_tree.specs.types.Operands.{integer_kind, pointer_kind, unsigned_kind, is_single, is_integer, is_unsigned, is_pointer}
use Rattle.tsa_tree.specs.types.Operands.{is_scalar, is_array, is_struct_place, target_of, structure_of, only, struct_of, same_target}
use Rattle.tsa_tree.specs.types.Operands.{null_beside, comparable, lacks, breaks_prefix, breaks_binary, breaks_index, breaks_integers}
use Rattle.tsa_tree.specs.types.Operands.{breaks_bits, breaks_comparison, either_unsigned, prefix_type, binary_type, element_type, common}
use Rattle.tsa_tree.specs.types.Operands as operand
use Rattle.tsa_tree.specs.types.Runnable.{is_small, is_scalar_kind}
use Rattle.tsa_tree.specs.types.Types.{single, value}
use Rattle.tsa_core.specs.Kinds.{Setting, scalar_kind, cell_kind, target_thing, pointer_kind_to, prefix_kind, both_integers, binary_kind}
use Rattle.tsa_core.specs.Kinds.{of_both, place_type, value_kind, is_value_kind}
use Rattle.tsa_core.specs.Meanings.{is_place, is_structure, is_cell, loaded, null_pointer, beside, prefix_term, operands}
use Rattle.tsa_core.specs.Terms.{Term, target, load, address, prefixed, joined, Sense}
use Rattle.tsa_core.proofs.TypedTerms.{some_same}
use Rattle.tsa_core.proofs.KindTests.{both_true, neither, not_false, not_true, one_of, or_left, and_true, single_length, pointer_plain}
use Rattle.tsa_core.proofs.KindTests.{integer_plain, scalar_plain, unsigned_integer, common_integer, scalar_small, so, integer_is}
use Rattle.tsa_core.proofs.KindTests.{pointer_is, scalar_is}
use Rattle.tsa_base.proofs.Truths.{never, or_right}

module _ (k : Setting) where
  -- what is kept of a term and a type
  pub record Holds (x : Term) (t : ExpressionType) : Type 0 where
    pub place : is_place x ≡ true → place_type k x ≡ Some t.thing
    pub small : is_place x ≡ false → is_small t.thing ≡ true
    pub value : is_place x ≡ false → is_value_kind t.thing.kind ≡ true → value_kind k x ≡ Some t.thing.kind
    pub zero : t.is_zero ≡ true → integer_kind t.thing.kind ≡ true
    pub there : is_place x ≡ false → is_some (value_kind k x) ≡ true

  pub a_value : (x : Term) (kind : Kind) → is_place x ≡ false → scalar_kind kind ≡ true → value_kind k x ≡ Some kind → Holds x (value kind)
  a_value x kind alone scalar is = record {
    place = λ e. never (sym e ∙ alone);
    small = λ e. and_true (is_scalar_kind kind) true (scalar_small kind (scalar_plain kind scalar).0) refl;
    value = λ e f. is;
    zero = λ e. never (sym e);
    there = λ e. ap is_some is;
  }

  pub a_place : (x : Term) (t : ExpressionType) → is_place x ≡ true → t.is_zero ≡ false → place_type k x ≡ Some t.thing → Holds x t
  a_place x t there plain is = record { place = λ e. is; small = λ e. never (sym there ∙ e); value = λ e f. never (sym there ∙ e); zero = λ e. never (sym e ∙ plain); there = λ e. never (sym there ∙ e) }

  -- the value of a cell, or a value itself
  chosen : (x : Term) (stable : Bool) (t : ThingType) (p c : Bool) → is_cell t ≡ true → c ≡ true → (p ≡ true → place_type k x ≡ Some t) → (p ≡ false → value_kind k x ≡ Some t.kind)
      → value_kind k (if p && c then load stable x else x) ≡ Some t.kind
  chosen x stable t true true cell e place value = ap (option_and_then cell_kind) (place refl) ∙ so (is_cell t) t.kind cell
  chosen x stable t true false cell e place value = never (sym e)
  chosen x stable t false c cell e place value = value refl

  cell_is : (t : ThingType) (l : Option ℕ) (b : Bool) → l ≡ None → b ≡ false → (not (is_some l) && not b) ≡ true
  cell_is t None false e f = refl
  cell_is t None true e f = never f
  cell_is t (Some n) b e f = absurd cc

  pub value_loaded : (s : Sense) → Holds s.term s.type → is_single s.type ≡ true → scalar_kind s.type.thing.kind ≡ true → value_kind k (loaded s) ≡ Some s.type.thing.kind
  value_loaded s h one scalar =
      let plain = scalar_plain s.type.thing.kind scalar in
      let cell = cell_is s.type.thing s.type.thing.length (is_structure s.type.thing.kind) (single_length s.type one) plain.0 in
      chosen s.term s.is_stable s.type.thing (is_place s.term) (is_cell s.type.thing) cell cell h.place (λ e. h.value e plain.1)

  pub integer_loaded : (s : Sense) → Holds s.term s.type → is_integer s.type ≡ true → value_kind k (loaded s) ≡ Some s.type.thing.kind
  integer_loaded s h e = let x = integer_is s.type e in value_loaded s h x.0 (or_left (integer_kind s.type.thing.kind) (pointer_kind s.type.thing.kind) x.1)

  pub pointer_loaded : (s : Sense) → Holds s.term s.type → is_single s.type ≡ true → pointer_kind s.type.thing.kind ≡ true → value_kind k (loaded s) ≡ Some s.type.thing.kind
  pointer_loaded s h e f = value_loaded s h e (or_right (integer_kind s.type.thing.kind) (pointer_kind s.type.thing.kind) f)

  -- a struct or an array is a place
  object_place : (x : Term) (t : ExpressionType) (p : Bool) → is_place x ≡ p → Holds x t → (is_small t.thing ≡ true → is_place x ≡ true) → is_place x ≡ true
  object_place x t true e h other = e
  object_place x t false e h other = other (h.small e)

  pub object_is : (x : Term) (t : ExpressionType) → Holds x t → (is_small t.thing ≡ true → is_place x ≡ true) → place_type k x ≡ Some t.thing
  object_is x t h other = h.place (object_place x t (is_place x) refl h other)

  struct_not_small : {A : Type 0} (t : ExpressionType) (n : ℕ) → t.thing.kind ≡ type.Structure n → is_small t.thing ≡ true → A
  struct_not_small t n is e = by t.thing.kind is (both_true (is_scalar_kind t.thing.kind) (not (is_some t.thing.length)) e).0
    where
      by : {A : Type 0} (kind : Kind) → kind ≡ type.Structure n → is_scalar_kind kind ≡ true → A
      by kind is e = never (sym e ∙ ap is_scalar_kind is)

  pub array_not_small : {A : Type 0} (t : ExpressionType) → is_array t ≡ true → is_small t.thing ≡ true → A
  array_not_small t is e = never (sym is ∙ not_true (is_some t.thing.length) (both_true (is_scalar_kind t.thing.kind) (not (is_some t.thing.length)) e).1)

  -- the struct of a type, and the target of one
  pub struct_told : (t : ExpressionType) (n : ℕ) → struct_of t ≡ Some n → (is_single t ≡ true) × (t.thing.kind ≡ type.Structure n)
  struct_told t n e = by (is_single t) t.thing.kind e
    where
      of_kind : (kind : Kind) → structure_of kind ≡ Some n → kind ≡ type.Structure n
      of_kind (type.Structure m) e = ap type.Structure (some_same e)
      of_kind type.Int e = cc
      of_kind type.Unsigned e = cc
      of_kind type.Void e = cc
      of_kind (type.Pointer m c) e = cc
      of_kind type.Null e = cc
      of_kind type.Function e = cc

      by : (b : Bool) (kind : Kind) → only b (structure_of kind) ≡ Some n → (b ≡ true) × (kind ≡ type.Structure n)
      by true kind e = (refl, of_kind kind e)
      by false kind e = cc

  pub record PointsTo (t : ExpressionType) (n : ℕ) : Type 0 where
    pub one : is_single t ≡ true
    pub to_const : Bool
    pub is : t.thing.kind ≡ type.Pointer n to_const

  pub target_told : (t : ExpressionType) (n : ℕ) → operand.target t ≡ Some n → PointsTo t n
  target_told t n e = by (is_single t) t.thing.kind refl refl e
    where
      of_kind : (kind : Kind) → t.thing.kind ≡ kind → is_single t ≡ true → target_of kind ≡ Some n → PointsTo t n
      of_kind (type.Pointer m c) same one e = record { one = one; to_const = c; is = same ∙ ap (λ i. type.Pointer i c) (some_same e) }
      of_kind (type.Structure m) same one e = cc
      of_kind type.Int same one e = cc
      of_kind type.Unsigned same one e = cc
      of_kind type.Void same one e = cc
      of_kind type.Null same one e = cc
      of_kind type.Function same one e = cc

      by : (b : Bool) (kind : Kind) → is_single t ≡ b → t.thing.kind ≡ kind → only b (target_of kind) ≡ Some n → PointsTo t n
      by true kind one same e = of_kind kind same one e
      by false kind one same e = cc

  some_is : {A : Type 0} (o : Option A) → is_some o ≡ true → (x : A) × (o ≡ Some x)
  some_is None e = never (sym e)
  some_is (Some x) e = (x, refl)

  -- a pointer's target, and the struct object at a place
  followed_kind : (n : ℕ) (c : Bool) (x : Term) (kind : Kind) → value_kind k x ≡ Some kind → kind ≡ type.Pointer n c → place_type k (target x) ≡ Some (single (type.Structure n) c)
  followed_kind n c x kind h e = ap (option_and_then target_thing) (h ∙ ap (λ y. Some y) e)

  pub followed_place : (s : Sense) (n : ℕ) → Holds s.term s.type → (p : PointsTo s.type n) → place_type k (target (loaded s)) ≡ Some (single (type.Structure n) p.to_const)
  followed_place s n h p =
      followed_kind n p.to_const (loaded s) s.type.thing.kind
      (pointer_loaded s h p.one (subst (λ y. pointer_kind y ≡ true) (sym p.is) refl)) p.is

  pub struct_place : (s : Sense) (n : ℕ) → Holds s.term s.type → struct_of s.type ≡ Some n → place_type k s.term ≡ Some s.type.thing
  struct_place s n h e = object_is s.term s.type h (λ small. struct_not_small s.type n (struct_told s.type n e).1 small)

  -- `&` and `*`, and the operators on one value
  address_kind : (t : ThingType) (n : ℕ) (l : Option ℕ) (kind : Kind) → t.length ≡ l → t.kind ≡ kind → l ≡ None → kind ≡ type.Structure n
      → pointer_kind_to t ≡ Some (type.Pointer n t.is_const)
  address_kind t n None kind d e f g = rw (d, e, g) refl
  address_kind t n (Some m) kind d e f g = absurd cc

  address_type : (t : ThingType) (n : ℕ) → t.kind ≡ type.Structure n → operand.address_of t ≡ type.Pointer n t.is_const
  address_type t n e = rw e refl

  address_holds : (s : Sense) → Holds s.term s.type → is_struct_place s.type ≡ true → Holds (address s.term) (prefix_type prefix.Address s.type)
  address_holds s h e =
      let there = some_is (struct_of s.type) (both_true s.type.is_place (is_some (struct_of s.type)) e).1 in
      let told = struct_told s.type there.0 there.1 in
      let same = address_type s.type.thing there.0 told.1 in
      subst (λ kind. Holds (address s.term) (value kind)) (sym same)
      (a_value (address s.term) (type.Pointer there.0 s.type.thing.is_const) refl refl
      (ap (option_and_then pointer_kind_to) (struct_place s there.0 h there.1)
      ∙ address_kind s.type.thing there.0 s.type.thing.length s.type.thing.kind refl refl (single_length s.type told.0) told.1))

  follow_holds : (s : Sense) → Holds s.term s.type → is_some (operand.target s.type) ≡ true → Holds (target (loaded s)) (prefix_type prefix.Follow s.type)
  follow_holds s h e =
      let there = some_is (operand.target s.type) e in
      let told = target_told s.type there.0 there.1 in
      a_place (target (loaded s)) (prefix_type prefix.Follow s.type) refl refl
      (followed_place s there.0 h told ∙ ap (λ kind. Some (operand.followed kind)) (sym told.is))

  prefix_made : (o : UnaryOp) (x : Term) (a r : Kind) → value_kind k x ≡ Some a → prefix_kind o a ≡ Some r → scalar_kind r ≡ true → Holds (prefixed o x) (value r)
  prefix_made o x a r h is scalar = a_value (prefixed o x) r refl scalar (ap (option_and_then (prefix_kind o)) h ∙ is)

  pub prefix_holds : (o : UnaryOp) (s : Sense) → Holds s.term s.type → breaks_prefix o (Some s.type) ≡ false → Holds (prefix_term o s) (prefix_type o s.type)
  prefix_holds prefix.Minus s h e =
      let is = not_false (is_integer s.type) e in
      let i = (integer_is s.type is).1 in
      prefix_made prefix.Minus (loaded s) s.type.thing.kind s.type.thing.kind (integer_loaded s h is) (so (integer_kind s.type.thing.kind) s.type.thing.kind i)
      (or_left (integer_kind s.type.thing.kind) (pointer_kind s.type.thing.kind) i)
  prefix_holds prefix.Not s h e =
      let is = scalar_is s.type (not_false (is_scalar s.type) e) in
      prefix_made prefix.Not (loaded s) s.type.thing.kind type.Int (value_loaded s h is.0 is.1) (so (scalar_kind s.type.thing.kind) type.Int is.1) refl
  prefix_holds prefix.Flip s h e =
      let is = both_true (is_single s.type) (unsigned_kind s.type.thing.kind) (not_false (is_unsigned s.type) e) in
      let scalar = or_left (integer_kind s.type.thing.kind) (pointer_kind s.type.thing.kind) (unsigned_integer s.type.thing.kind is.1) in
      prefix_made prefix.Flip (loaded s) s.type.thing.kind s.type.thing.kind (value_loaded s h is.0 scalar) (so (unsigned_kind s.type.thing.kind) s.type.thing.kind is.1) scalar
  prefix_holds prefix.Address s h e = address_holds s h (not_false (is_struct_place s.type) e)
  prefix_holds prefix.Follow s h e = follow_holds s h (not_false (is_some (operand.target s.type)) e)

  -- operators on two values
  joined_made : (o : BinaryOp) (x y : Term) (a b r : Kind) → value_kind k x ≡ Some a → value_kind k y ≡ Some b → binary_kind o a b ≡ Some r → scalar_kind r ≡ true
      → Holds (joined o x y) (value r)
  joined_made o x y a b r h g is scalar = a_value (joined o x y) r refl scalar (ap₂ (of_both (binary_kind o)) h g ∙ is)

  module _ (l r : Sense) (h : Holds l.term l.type) (g : Holds r.term r.type) where
    abbrev a : Kind
    a = l.type.thing.kind

    abbrev b : Kind
    b = r.type.thing.kind

    of_two : (o : BinaryOp) (kind : Kind) → is_scalar l.type ≡ true → is_scalar r.type ≡ true → binary_kind o a b ≡ Some kind → scalar_kind kind ≡ true
        → Holds (joined o (loaded l) (loaded r)) (value kind)
    of_two o kind e f is scalar =
        let x = scalar_is l.type e in
        let y = scalar_is r.type f in
        joined_made o (loaded l) (loaded r) a b kind (value_loaded l h x.0 x.1) (value_loaded r g y.0 y.1) is scalar

    are_scalars : breaks_binary op.Or (Some l.type) (Some r.type) ≡ false → (is_scalar l.type ≡ true) × (is_scalar r.type ≡ true)
    are_scalars e = let x = neither (not (is_scalar l.type)) (not (is_scalar r.type)) e in (not_false (is_scalar l.type) x.0, not_false (is_scalar r.type) x.1)

    are_integers : breaks_integers (Some l.type) (Some r.type) ≡ false → (is_integer l.type ≡ true) × (is_integer r.type ≡ true)
    are_integers e = let x = neither (not (is_integer l.type)) (not (is_integer r.type)) e in (not_false (is_integer l.type) x.0, not_false (is_integer r.type) x.1)

    kinds_integers : (is_integer l.type ≡ true) × (is_integer r.type ≡ true) → both_integers a b ≡ true
    kinds_integers i = and_true (integer_kind a) (integer_kind b) (integer_is l.type i.0).1 (integer_is r.type i.1).1

    of_integers : (o : BinaryOp) (kind : Kind) → breaks_integers (Some l.type) (Some r.type) ≡ false → (both_integers a b ≡ true → binary_kind o a b ≡ Some kind) → scalar_kind kind ≡ true
        → Holds (joined o (loaded l) (loaded r)) (value kind)
    of_integers o kind e is scalar =
        let i = are_integers e in
        of_two o kind (or_left (is_integer l.type) (is_pointer l.type) i.0) (or_left (is_integer r.type) (is_pointer r.type) i.1) (is (kinds_integers i)) scalar

    common_scalar : breaks_integers (Some l.type) (Some r.type) ≡ false → scalar_kind (common a b) ≡ true
    common_scalar e =
        let i = are_integers e in
        or_left (integer_kind (common a b)) (pointer_kind (common a b)) (common_integer a b (integer_is l.type i.0).1 (integer_is r.type i.1).1)

    some_unsigned : either_unsigned l.type r.type ≡ true → (unsigned_kind a || unsigned_kind b) ≡ true
    some_unsigned e =
        one_of (is_unsigned l.type) (is_unsigned r.type) e
        (λ u. or_left (unsigned_kind a) (unsigned_kind b) (both_true (is_single l.type) (unsigned_kind a) u).1)
        (λ u. or_right (unsigned_kind a) (unsigned_kind b) (both_true (is_single r.type) (unsigned_kind b) u).1)

    of_bits_hold : (o : BinaryOp) → ((both_integers a b && (unsigned_kind a || unsigned_kind b)) ≡ true → binary_kind o a b ≡ Some (common a b))
        → breaks_bits (Some l.type) (Some r.type) ≡ false → Holds (joined o (loaded l) (loaded r)) (value (common a b))
    of_bits_hold o is e =
        let x = neither (breaks_integers (Some l.type) (Some r.type)) (not (either_unsigned l.type r.type)) e in
        let u = some_unsigned (not_false (either_unsigned l.type r.type) x.1) in
        of_integers o (common a b) x.0 (λ i. is (and_true (both_integers a b) (unsigned_kind a || unsigned_kind b) i u)) (common_scalar x.0)

    -- beside a pointer the number 0 is null
    beside_not : (other : Kind) (s : Sense) (p i : Bool) → pointer_kind other ≡ p → integer_kind s.type.thing.kind ≡ i → (p && i) ≡ false → beside other s ≡ loaded s
    beside_not other s p i d e f = rw (d, e, f) refl

    beside_null : (other : Kind) (s : Sense) → pointer_kind other ≡ true → integer_kind s.type.thing.kind ≡ true → beside other s ≡ null_pointer
    beside_null other s d e = rw (d, e) refl

    compared : (o : BinaryOp) (x y : Kind) → value_kind k (beside b l) ≡ Some x → value_kind k (beside a r) ≡ Some y → (both_integers x y || same_target x y) ≡ true
        → ((both_integers x y || same_target x y) ≡ true → binary_kind o x y ≡ Some type.Int) → Holds (joined o (beside b l) (beside a r)) (value type.Int)
    compared o x y e f same is = joined_made o (beside b l) (beside a r) x y type.Int e f (is same) refl

    same_pointers : (x y : Kind) → same_target x y ≡ true → (pointer_kind x ≡ true) × (pointer_kind y ≡ true)
    same_pointers type.Null type.Null e = (refl, refl)
    same_pointers type.Null (type.Pointer n c) e = (refl, refl)
    same_pointers (type.Pointer n c) type.Null e = (refl, refl)
    same_pointers (type.Pointer n c) (type.Pointer m d) e = (refl, refl)
    same_pointers type.Int y e = never (sym e)
    same_pointers type.Unsigned y e = never (sym e)
    same_pointers type.Void y e = never (sym e)
    same_pointers (type.Structure n) y e = never (sym e)
    same_pointers type.Function y e = never (sym e)
    same_pointers type.Null type.Int e = never (sym e)
    same_pointers type.Null type.Unsigned e = never (sym e)
    same_pointers type.Null type.Void e = never (sym e)
    same_pointers type.Null (type.Structure n) e = never (sym e)
    same_pointers type.Null type.Function e = never (sym e)
    same_pointers (type.Pointer m d) type.Int e = never (sym e)
    same_pointers (type.Pointer m d) type.Unsigned e = never (sym e)
    same_pointers (type.Pointer m d) type.Void e = never (sym e)
    same_pointers (type.Pointer m d) (type.Structure n) e = never (sym e)
    same_pointers (type.Pointer m d) type.Function e = never (sym e)

    null_same : (x : Kind) → pointer_kind x ≡ true → (same_target type.Null x ≡ true) × (same_target x type.Null ≡ true)
    null_same type.Null e = (refl, refl)
    null_same (type.Pointer n c) e = (refl, refl)
    null_same type.Int e = never (sym e)
    null_same type.Unsigned e = never (sym e)
    null_same type.Void e = never (sym e)
    null_same (type.Structure n) e = never (sym e)
    null_same type.Function e = never (sym e)

    no_and : (p i : Bool) → i ≡ false → (p && i) ≡ false
    no_and true i e = e
    no_and false i e = refl

    abbrev Compares : BinaryOp → Type 0
    Compares o = Holds (joined o (beside b l) (beside a r)) (value type.Int)

    abbrev IsComparison : BinaryOp → Type 0
    IsComparison o = (x y : Kind) → (both_integers x y || same_target x y) ≡ true → binary_kind o x y ≡ Some type.Int

    -- both are integers
    numbers_compared : (o : BinaryOp) → IsComparison o → (is_integer l.type ≡ true) × (is_integer r.type ≡ true) → Compares o
    numbers_compared o is i =
        let x = integer_plain a (integer_is l.type i.0).1 in
        let y = integer_plain b (integer_is r.type i.1).1 in
        compared o a b (ap (value_kind k) (beside_not b l (pointer_kind b) (integer_kind a) refl refl (ap (λ p. p && integer_kind a) y.2)) ∙ integer_loaded l h i.0)
        (ap (value_kind k) (beside_not a r (pointer_kind a) (integer_kind b) refl refl (ap (λ p. p && integer_kind b) x.2)) ∙ integer_loaded r g i.1)
        (or_left (both_integers a b) (same_target a b) (kinds_integers i)) (is a b)

    -- both are pointers
    pointers_compared : (o : BinaryOp) → IsComparison o → is_single l.type ≡ true → is_single r.type ≡ true → same_target a b ≡ true → Compares o
    pointers_compared o is one two same =
        let p = same_pointers a b same in
        compared o a b
        (ap (value_kind k) (beside_not b l (pointer_kind b) (integer_kind a) refl refl (no_and (pointer_kind b) (integer_kind a) (pointer_plain a p.0).2)) ∙ pointer_loaded l h one p.0)
        (ap (value_kind k) (beside_not a r (pointer_kind a) (integer_kind b) refl refl (no_and (pointer_kind a) (integer_kind b) (pointer_plain b p.1).2)) ∙ pointer_loaded r g two p.1)
        (or_right (both_integers a b) (same_target a b) same) (is a b)

    -- one of them is null
    left_null : (o : BinaryOp) → IsComparison o → null_beside l.type r.type ≡ true → Compares o
    left_null o is e =
        let n = both_true l.type.is_zero (is_pointer r.type) e in
        let p = pointer_is r.type n.1 in
        let i = h.zero n.0 in
        compared o type.Null b (ap (value_kind k) (beside_null b l p.1 i))
        (ap (value_kind k) (beside_not a r (pointer_kind a) (integer_kind b) refl refl (no_and (pointer_kind a) (integer_kind b) (pointer_plain b p.1).2)) ∙ pointer_loaded r g p.0 p.1)
        (or_right (both_integers type.Null b) (same_target type.Null b) (null_same b p.1).0) (is type.Null b)

    right_null : (o : BinaryOp) → IsComparison o → null_beside r.type l.type ≡ true → Compares o
    right_null o is e =
        let n = both_true r.type.is_zero (is_pointer l.type) e in
        let p = pointer_is l.type n.1 in
        let i = g.zero n.0 in
        compared o a type.Null
        (ap (value_kind k) (beside_not b l (pointer_kind b) (integer_kind a) refl refl (no_and (pointer_kind b) (integer_kind a) (pointer_plain a p.1).2)) ∙ pointer_loaded l h p.0 p.1)
        (ap (value_kind k) (beside_null a r p.1 i))
        (or_right (both_integers a type.Null) (same_target a type.Null) (null_same a p.1).1) (is a type.Null)

    comparison_holds : (o : BinaryOp) → IsComparison o → breaks_comparison (Some l.type) (Some r.type) ≡ false → Compares o
    comparison_holds o is e =
        let c = not_false (comparable l.type r.type) (neither (not (is_scalar l.type) || not (is_scalar r.type)) (not (comparable l.type r.type)) e).1 in
        one_of (is_integer l.type && is_integer r.type) _ c (λ i. numbers_compared o is (both_true (is_integer l.type) (is_integer r.type) i))
        (λ d.
        one_of (is_single l.type && (is_single r.type && same_target a b)) (null_beside l.type r.type || null_beside r.type l.type) d
        (λ p. let x = both_true (is_single l.type) (is_single r.type && same_target a b) p in
        let y = both_true (is_single r.type) (same_target a b) x.1 in pointers_compared o is x.0 y.0 y.1)
        (λ n. one_of (null_beside l.type r.type) (null_beside r.type l.type) n (left_null o is) (right_null o is)))

    pub operands_hold : (o : BinaryOp) → breaks_binary o (Some l.type) (Some r.type) ≡ false → Holds (operands o l r) (binary_type o l.type r.type)
    operands_hold op.Or e = let s = are_scalars e in of_two op.Or type.Int s.0 s.1 (so (scalar_kind a && scalar_kind b) type.Int (and_true (scalar_kind a) (scalar_kind b) (scalar_is l.type s.0).1 (scalar_is r.type s.1).1)) refl
    operands_hold op.And e = let s = are_scalars e in of_two op.And type.Int s.0 s.1 (so (scalar_kind a && scalar_kind b) type.Int (and_true (scalar_kind a) (scalar_kind b) (scalar_is l.type s.0).1 (scalar_is r.type s.1).1)) refl
    operands_hold op.BitOr e = of_bits_hold op.BitOr (so _ (common a b)) e
    operands_hold op.BitXor e = of_bits_hold op.BitXor (so _ (common a b)) e
    operands_hold op.BitAnd e = of_bits_hold op.BitAnd (so _ (common a b)) e
    operands_hold op.Equal e = comparison_holds op.Equal (λ x y. so _ type.Int) e
    operands_hold op.Unequal e = comparison_holds op.Unequal (λ x y. so _ type.Int) e
    operands_hold op.Less e = of_integers op.Less type.Int e (so _ type.Int) refl
    operands_hold op.More e = of_integers op.More type.Int e (so _ type.Int) refl
    operands_hold op.LessEqual e = of_integers op.LessEqual type.Int e (so _ type.Int) refl
    operands_hold op.MoreEqual e = of_integers op.MoreEqual type.Int e (so _ type.Int) refl
    operands_hold op.Plus e = of_integers op.Plus (common a b) e (so _ (common a b)) (common_scalar e)
    operands_hold op.Minus e = of_integers op.Minus (common a b) e (so _ (common a b)) (common_scalar e)
    operands_hold op.Times e = of_integers op.Times (common a b) e (so _ (common a b)) (common_scalar e)
    operands_hold op.Divide e = of_integers op.Divide (common a b) e (so _ (common a b)) (common_scalar e)
    operands_hold op.Remainder e = of_integers op.Remainder (common a b) e (so _ (common a b)) (common_scalar e)
