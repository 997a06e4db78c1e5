-- Conversions between `int` and `unsigned` keep the number modulo 2 ^ 32.
use Rattle.std.proofs.Common.{◌≡◌, ◌∙◌, ℕ, zero, suc, pos, negsuc, ◌-◌, ◌%◌, ◌^◌, ◌<◌, ◌≤◌, arith, ℤ, neg_ℤ, int_le, int_lt, nat_lt, Bool}
use Rattle.std.proofs.Common.{true, false, if◌then◌else◌, Some, refl, sym, ap, subst}
use Rattle.std.proofs.lemmas.Bool.Decides.{nat_tests}
use Rattle.std.proofs.Math.Nat.{mod-eq_of_lt}
use Rattle.tsa_base.specs.declared.value.Value.{Value}
use Rattle.tsa_base.specs.declared.value.Value.TheVariants.{Int, Unsigned, Pointer}
use Rattle.tsa_base.proofs.Truths.{never}
use Rattle.tsa_tree.specs.declared.kind.Kind.{Kind}
use Rattle.tsa_tree.specs.declared.kind.Kind.TheVariants as type
use Rattle.tsa_tree.specs.types.Arithmetic.{is_int, modulus}
use Rattle.tsa_tree.specs.types.Operands.{integer_kind}
use Rattle.tsa_place_model.specs.Calls.{Layout}
use Rattle.tsa_place_model.specs.Stores.{is_value_of}
use Rattle.tsa_core.proofs.KindTests.{both_true}
use Rattle.tsa_core.proofs.TypedTerms.{some_same}
use Rattle.tsa_path.specs.Laws.{IsValue, IsSameValue, bits}
use Rattle.tsa_path.specs.Values.{in_kind}

-- a number is none of these, but of a kind of integers
abbrev pub IsNumber : Value → Type 0
IsNumber (Int z) = Unit {0}
IsNumber (Unsigned n) = Unit {0}
IsNumber (Pointer p) = ⊥

-- a value of the same number
pub record Keeps (u v : Value) : Type 0 where
  pub value : IsValue v
  pub same : bits u ≡ bits v

itself : (v : Value) → IsValue v → Keeps v v
itself v h = record { value = h; same = refl }

module _ (m : ℕ) (h : m < 2 ^ 32) where
  low : m < 2 ^ 31 → Keeps (Unsigned m) (Int (pos m))
  low e = record { value = e; same = refl }

  high : 2 ^ 31 ≤ m → (j : ℕ) → 2 ^ 32 - m ≡ suc j → Keeps (Unsigned m) (Int (negsuc j))
  high e j f =
      let number : m ≡ 2 ^ 32 - suc j = omega (arith, h, e, f) in
      record { value = omega (arith, h, e, f); same = ap Some number }

  above : 2 ^ 31 ≤ m → (r : ℕ) → 2 ^ 32 - m ≡ r → Keeps (Unsigned m) (Int (neg_ℤ (pos r)))
  above e zero f = absurd (omega (arith, h, f))
  above e (suc j) f = high e j f

  to_int : (b : Bool) → nat_lt m (2 ^ 31) ≡ b → Keeps (Unsigned m) (Int (if b then pos m else neg_ℤ (pos (2 ^ 32 - m))))
  to_int true e = low (grind (arith, nat_tests, e))
  to_int false e = above (grind (arith, nat_tests, e)) (2 ^ 32 - m) refl

from_pos : (n : ℕ) → n < 2 ^ 31 → Keeps (Int (pos n)) (Unsigned n)
from_pos n h = record { value = omega (arith, h); same = refl }

from_negative : (n m : ℕ) → n < 2 ^ 31 → n ≡ m → Keeps (Int (negsuc n)) (Unsigned ((2 ^ 32 - 1) - m))
from_negative n m h e =
    let number : 2 ^ 32 - suc n ≡ (2 ^ 32 - 1) - m = omega (arith, h, e) in
    record { value = omega (arith, h, e); same = ap Some number }

small_mod : (n : ℕ) → n < 2 ^ 31 → n % modulus ≡ n
small_mod n h = mod-eq_of_lt (omega (arith, h))

-- a conversion keeps the number
pub converts : (kind : Kind) (u v : Value) → integer_kind kind ≡ true → IsValue u → in_kind kind u ≡ Some v → Keeps u v
converts type.Int (Int z) v i h e = subst (Keeps (Int z)) (some_same e) (itself (Int z) h)
converts type.Int (Unsigned m) v i h e = subst (Keeps (Unsigned m)) (some_same e) (to_int m h (nat_lt m (2 ^ 31)) refl)
converts type.Unsigned (Int (pos n)) v i h e =
    subst (Keeps (Int (pos n))) (ap Unsigned (sym (small_mod n h)) ∙ some_same e) (from_pos n h)
converts type.Unsigned (Int (negsuc n)) v i h e = subst (Keeps (Int (negsuc n))) (some_same e) (from_negative n (n % modulus) h (sym (small_mod n h)))
converts type.Unsigned (Unsigned m) v i h e = subst (Keeps (Unsigned m)) (some_same e) (itself (Unsigned m) h)
converts type.Int (Pointer p) v i h e = cc
converts type.Unsigned (Pointer p) v i h e = cc
converts type.Void u v i h e = never (sym i)
converts (type.Structure n) u v i h e = never (sym i)
converts (type.Pointer n c) u v i h e = never (sym i)
converts type.Null u v i h e = never (sym i)
converts type.Function u v i h e = never (sym i)

-- numbers of the same bits are the same up to conversion
pub same_number : (u v : Value) → IsNumber u → bits u ≡ bits v → IsSameValue u v
same_number (Int z) v n e = e
same_number (Unsigned m) v n e = e
same_number (Pointer p) v n e = absurd n

int_value : (z : ℤ) → is_int z ≡ true → IsValue (Int z)
int_value (pos n) e = let less = (both_true (int_le (neg_ℤ (pos (2 ^ 31))) (pos n)) _ e).1 in grind (arith, nat_tests, less)
int_value (negsuc n) e = let less = (both_true _ (int_lt (negsuc n) (pos (2 ^ 31))) e).0 in grind (arith, nat_tests, less)

-- a value of a kind of integers is a number in range
pub number_value : (l : Layout) (kind : Kind) (v : Value) → integer_kind kind ≡ true → is_value_of l kind v ≡ true → IsValue v × IsNumber v
number_value l type.Int (Int z) i e = (int_value z e, tt)
number_value l type.Unsigned (Unsigned n) i e = (grind (arith, nat_tests, e), tt)
number_value l type.Int (Unsigned n) i e = never (sym e)
number_value l type.Int (Pointer p) i e = never (sym e)
number_value l type.Unsigned (Int z) i e = never (sym e)
number_value l type.Unsigned (Pointer p) i e = never (sym e)
number_value l type.Void v i e = never (sym i)
number_value l (type.Structure n) v i e = never (sym i)
number_value l (type.Pointer n c) v i e = never (sym i)
number_value l type.Null v i e = never (sym i)
number_value l type.Function v i e = never (sym i)
