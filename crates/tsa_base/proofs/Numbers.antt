-- Of numbers: the next one, equality as a test, and remainders.
use Rattle.std.proofs.Common.{◌≡◌, ℕ, zero, suc, ◌+◌, ◌%◌, ◌≤◌, arith, true, nat_eq}
use Rattle.std.proofs.lemmas.Bool.Decides.{nat_tests}

pub plus_one : (n : ℕ) → suc n ≡ n + 1
plus_one n = omega arith

pub one_behind : (i : ℕ) → i + 1 ≡ suc i
one_behind i = omega arith

pub one_more : (n : ℕ) → 1 + n ≡ suc n
one_more n = omega arith

pub itself : (n : ℕ) → nat_eq n n ≡ true
itself n = grind (arith, nat_tests)

pub small_remainder : (n k : ℕ) → n % k ≤ n
small_remainder n zero = omega arith
small_remainder n (suc k) = omega arith
