-- Truth of joined tests, and kinds of numbers and pointers.
use Rattle.std.proofs.Common.{◌≡◌, ℕ, Bool, true, false, ◌&&◌, ◌||◌, not, Option, Some, None, is_some, refl, sym}
use Rattle.tsa_tree.specs.declared.kind.ExpressionType.{ExpressionType}
use Rattle.tsa_tree.specs.declared.kind.Kind.{Kind}
use Rattle.tsa_tree.specs.declared.kind.Kind.TheVariants as type
use Rattle.tsa_tree.specs.types.Operands.{integer_kind, pointer_kind, unsigned_kind, is_single, is_integer, is_pointer, is_scalar, common}
use Rattle.tsa_tree.specs.types.Runnable.{is_scalar_kind}
use Rattle.tsa_core.specs.Kinds.{scalar_kind, if_so, is_value_kind}
use Rattle.tsa_core.specs.Meanings.{is_structure}
use Rattle.tsa_base.proofs.Truths.{never, or_right}

pub both_true : (a b : Bool) → (a && b) ≡ true → (a ≡ true) × (b ≡ true)
both_true true true e = (refl, refl)
both_true true false e = never (sym e)
both_true false b e = never (sym e)

pub neither : (a b : Bool) → (a || b) ≡ false → (a ≡ false) × (b ≡ false)
neither false false e = (refl, refl)
neither true b e = never e
neither false true e = never e

pub not_false : (b : Bool) → not b ≡ false → b ≡ true
not_false true e = refl
not_false false e = never e

pub not_true : (b : Bool) → not b ≡ true → b ≡ false
not_true false e = refl
not_true true e = never (sym e)

pub one_of : {A : Type 0} (a b : Bool) → (a || b) ≡ true → (a ≡ true → A) → (b ≡ true → A) → A
one_of true b e f g = f refl
one_of false b e f g = g e

pub or_left : (a b : Bool) → a ≡ true → (a || b) ≡ true
or_left true b e = refl
or_left false b e = never (sym e)

pub and_true : (a b : Bool) → a ≡ true → b ≡ true → (a && b) ≡ true
and_true true b e f = f
and_true false b e f = never (sym e)

pub no_length : (l : Option ℕ) → is_some l ≡ false → l ≡ None
no_length None e = refl
no_length (Some n) e = never e

pub single_length : (t : ExpressionType) → is_single t ≡ true → t.thing.length ≡ None
single_length t e = by t.thing.length e
  where
    by : (l : Option ℕ) → not (is_some l) ≡ true → l ≡ None
    by l e = no_length l (not_true (is_some l) e)

-- Kinds of numbers and pointers.
pub pointer_plain : (kind : Kind) → pointer_kind kind ≡ true → (is_structure kind ≡ false) × (is_value_kind kind ≡ true) × (integer_kind kind ≡ false)
pointer_plain type.Int e = never (sym e)
pointer_plain type.Unsigned e = never (sym e)
pointer_plain type.Void e = never (sym e)
pointer_plain (type.Structure n) e = never (sym e)
pointer_plain (type.Pointer n c) e = (refl, refl, refl)
pointer_plain type.Null e = (refl, refl, refl)
pointer_plain type.Function e = never (sym e)

pub integer_plain : (kind : Kind) → integer_kind kind ≡ true → (is_structure kind ≡ false) × (is_value_kind kind ≡ true) × (pointer_kind kind ≡ false)
integer_plain type.Int e = (refl, refl, refl)
integer_plain type.Unsigned e = (refl, refl, refl)
integer_plain type.Void e = never (sym e)
integer_plain (type.Structure n) e = never (sym e)
integer_plain (type.Pointer n c) e = never (sym e)
integer_plain type.Null e = never (sym e)
integer_plain type.Function e = never (sym e)

pub scalar_plain : (kind : Kind) → scalar_kind kind ≡ true → (is_structure kind ≡ false) × (is_value_kind kind ≡ true)
scalar_plain kind e = one_of (integer_kind kind) (pointer_kind kind) e (λ i. let p = integer_plain kind i in (p.0, p.1)) (λ i. let p = pointer_plain kind i in (p.0, p.1))

pub unsigned_integer : (kind : Kind) → unsigned_kind kind ≡ true → integer_kind kind ≡ true
unsigned_integer type.Unsigned e = refl
unsigned_integer type.Int e = never (sym e)
unsigned_integer type.Void e = never (sym e)
unsigned_integer (type.Structure n) e = never (sym e)
unsigned_integer (type.Pointer n c) e = never (sym e)
unsigned_integer type.Null e = never (sym e)
unsigned_integer type.Function e = never (sym e)

pub common_integer : (a b : Kind) → integer_kind a ≡ true → integer_kind b ≡ true → integer_kind (common a b) ≡ true
common_integer type.Int b e f = f
common_integer type.Unsigned b e f = refl
common_integer type.Void b e f = f
common_integer (type.Structure n) b e f = f
common_integer (type.Pointer n c) b e f = f
common_integer type.Null b e f = f
common_integer type.Function b e f = f

pub no_struct : (kind : Kind) → is_scalar_kind kind ≡ true → is_structure kind ≡ false
no_struct type.Int e = refl
no_struct type.Unsigned e = refl
no_struct type.Void e = refl
no_struct (type.Structure n) e = never (sym e)
no_struct (type.Pointer n c) e = refl
no_struct type.Null e = refl
no_struct type.Function e = refl

pub scalar_small : (kind : Kind) → is_structure kind ≡ false → is_scalar_kind kind ≡ true
scalar_small type.Int e = refl
scalar_small type.Unsigned e = refl
scalar_small type.Void e = refl
scalar_small (type.Structure n) e = never e
scalar_small (type.Pointer n c) e = refl
scalar_small type.Null e = refl
scalar_small type.Function e = refl

pub so : (b : Bool) (kind : Kind) → b ≡ true → if_so b kind ≡ Some kind
so true kind e = refl
so false kind e = never (sym e)

-- integers, and integers or pointers, by their types
pub integer_is : (t : ExpressionType) → is_integer t ≡ true → (is_single t ≡ true) × (integer_kind t.thing.kind ≡ true)
integer_is t e = both_true (is_single t) (integer_kind t.thing.kind) e

pub pointer_is : (t : ExpressionType) → is_pointer t ≡ true → (is_single t ≡ true) × (pointer_kind t.thing.kind ≡ true)
pointer_is t e = both_true (is_single t) (pointer_kind t.thing.kind) e

pub scalar_is : (t : ExpressionType) → is_scalar t ≡ true → (is_single t ≡ true) × (scalar_kind t.thing.kind ≡ true)
scalar_is t e =
    one_of (is_integer t) (is_pointer t) e
    (λ i. let x = integer_is t i in (x.0, or_left (integer_kind t.thing.kind) (pointer_kind t.thing.kind) x.1))
    (λ i. let x = pointer_is t i in (x.0, or_right (integer_kind t.thing.kind) (pointer_kind t.thing.kind) x.1))
