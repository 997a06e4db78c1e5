-- The range of `int`, and the remainders of what is in it.
use Rattle.std.proofs.Common.{◌≡◌, ℕ, zero, suc, ◌%◌, ◌^◌, ◌<◌, ◌≤◌, ℤ, pos, negsuc, neg_ℤ, int_rem, int_lt, int_le, unsigned_abs, arith}
use Rattle.std.proofs.Common.{true, refl}
use Rattle.std.proofs.lemmas.Bool.Decides.{nat_tests}
use Rattle.tsa_base.proofs.Numbers.{small_remainder}
use Rattle.tsa_tree.specs.types.Arithmetic.{is_int}
use Rattle.tsa_core.proofs.KindTests.{and_true, both_true}

pub int_pos : (n : ℕ) → n < 2 ^ 31 → is_int (pos n) ≡ true
int_pos n h = and_true (int_le (neg_ℤ (pos (2 ^ 31))) (pos n)) (int_lt (pos n) (pos (2 ^ 31))) refl (grind (arith, nat_tests, h))

int_negative : (n : ℕ) → n < 2 ^ 31 → is_int (negsuc n) ≡ true
int_negative n h = and_true (int_le (neg_ℤ (pos (2 ^ 31))) (negsuc n)) (int_lt (negsuc n) (pos (2 ^ 31))) (grind (arith, nat_tests, h)) refl

pub int_opposite : (n : ℕ) → n ≤ 2 ^ 31 → is_int (neg_ℤ (pos n)) ≡ true
int_opposite zero h = int_pos 0 (omega arith)
int_opposite (suc n) h = int_negative n (omega (arith, h))

pos_below : (n : ℕ) → is_int (pos n) ≡ true → n < 2 ^ 31
pos_below n e = let less = (both_true (int_le (neg_ℤ (pos (2 ^ 31))) (pos n)) _ e).1 in grind (arith, nat_tests, less)

negative_below : (n : ℕ) → is_int (negsuc n) ≡ true → n < 2 ^ 31
negative_below n e = let less = (both_true _ (int_lt (negsuc n) (pos (2 ^ 31))) e).0 in grind (arith, nat_tests, less)

pub remainder_fits : (a b : ℤ) → is_int a ≡ true → is_int (int_rem a b) ≡ true
remainder_fits (pos n) b h = let less = pos_below n h in let small = small_remainder n (unsigned_abs b) in int_pos (n % unsigned_abs b) (omega (arith, less, small))
remainder_fits (negsuc n) b h =
    let less = negative_below n h in
    let small = small_remainder (suc n) (unsigned_abs b) in
    int_opposite (suc n % unsigned_abs b) (omega (arith, less, small))
