-- Operators make numbers in range of numbers in range, of the kinds that are told.
use Rattle.std.proofs.Common.{◌≡◌, ℕ, zero, suc, ◌-◌, ◌/◌, ◌%◌, ◌^◌, ◌<◌, ◌≤◌, ℤ, pos, negsuc, neg_ℤ, ◌+ℤ◌, ◌-ℤ◌, ◌*ℤ◌, int_div, int_rem}
use Rattle.std.proofs.Common.{nat_lt, Bool, true, false, Option, Some, Result, Ok, Err, if◌then◌else◌, refl, sym, subst, arith}
use Rattle.std.proofs.lemmas.Bool.Decides.{nat_tests}
use Rattle.std.proofs.lemmas.Nat.{and_le_l, or_of_32, xor_of_32}
use Rattle.tsa_tree.specs.declared.expr.BinaryOp.{BinaryOp}
use Rattle.tsa_tree.specs.declared.expr.BinaryOp.TheVariants as op
use Rattle.tsa_tree.specs.declared.expr.UnaryOp.{UnaryOp}
use Rattle.tsa_tree.specs.declared.expr.UnaryOp.TheVariants as prefix
use Rattle.tsa_tree.specs.declared.kind.Kind.{Kind}
use Rattle.tsa_tree.specs.declared.kind.Kind.TheVariants as type
use Rattle.tsa_tree.specs.declared.number.Number.{Number}
use Rattle.tsa_tree.specs.declared.number.Number.TheVariants as numeral
use Rattle.tsa_tree.specs.declared.number.Trap.{Trap}
use Rattle.tsa_tree.specs.declared.number.Trap.TheVariants.{Overflow}
use Rattle.tsa_tree.specs.types.Arithmetic.{divided, exactly, int_of, is_int, on_int, on_unsigned, operate, operate_prefix, truth}
use Rattle.tsa_tree.specs.types.Arithmetic.{unsigned_of}
use Rattle.tsa_core.specs.Kinds.{binary_kind, prefix_kind}
use Rattle.tsa_core.proofs.IntRange.{int_opposite, int_pos, remainder_fits}
use Rattle.tsa_sound.specs.Facts.{IsWhole}
use Rattle.tsa_base.proofs.Numbers.{small_remainder}

-- a number in range, and its kind
abbrev pub NumberFits : Number → Type 0
NumberFits (numeral.Int z) = is_int z ≡ true
NumberFits (numeral.Unsigned n) = nat_lt n (2 ^ 32) ≡ true

abbrev pub kind_of : Number → Kind
kind_of (numeral.Int z) = type.Int
kind_of (numeral.Unsigned n) = type.Unsigned

-- where a kind is told and a number comes, it is of that kind and in range
abbrev pub IsGood : Option Kind → Result Number Trap → Type 0
IsGood (Some kind) (Ok n) = (kind ≡ kind_of n) × NumberFits n
IsGood kind r = Unit {0}

below : (n : ℕ) → n < 2 ^ 32 → nat_lt n (2 ^ 32) ≡ true
below n h = grind (arith, nat_tests, h)

is_below : (n : ℕ) → nat_lt n (2 ^ 32) ≡ true → n < 2 ^ 32
is_below n e = grind (arith, nat_tests, e)

pub truth_fits : (b : Bool) → NumberFits (truth b)
truth_fits true = int_pos 1 (omega arith)
truth_fits false = int_pos 0 (omega arith)

small_quotient : (n k : ℕ) → n / suc k ≤ n
small_quotient n k = omega arith

exactly_good : (z : ℤ) → IsGood (Some type.Int) (exactly z)
exactly_good z = by (is_int z) refl
  where
    by : (b : Bool) → is_int z ≡ b → IsGood (Some type.Int) (if b then Ok (numeral.Int z) else Err Overflow)
    by true e = (refl, e)
    by false e = tt

left_good : (a b : ℤ) → is_int a ≡ true → IsGood (Some type.Int) (if is_int (int_div a b) then Ok (numeral.Int (int_rem a b)) else Err Overflow)
left_good a b h = by (is_int (int_div a b))
  where
    by : (t : Bool) → IsGood (Some type.Int) (if t then Ok (numeral.Int (int_rem a b)) else Err Overflow)
    by true = (refl, remainder_fits a b h)
    by false = tt

ints_good : (o : BinaryOp) (a b : ℤ) → IsWhole o → is_int a ≡ true → IsGood (binary_kind o type.Int type.Int) (on_int o a b)
ints_good op.Or a b o h = absurd o
ints_good op.And a b o h = absurd o
ints_good op.BitOr a b o h = tt
ints_good op.BitXor a b o h = tt
ints_good op.BitAnd a b o h = tt
ints_good op.Equal a b o h = (refl, truth_fits _)
ints_good op.Unequal a b o h = (refl, truth_fits _)
ints_good op.Less a b o h = (refl, truth_fits _)
ints_good op.More a b o h = (refl, truth_fits _)
ints_good op.LessEqual a b o h = (refl, truth_fits _)
ints_good op.MoreEqual a b o h = (refl, truth_fits _)
ints_good op.Plus a b o h = exactly_good (a +ℤ b)
ints_good op.Minus a b o h = exactly_good (a -ℤ b)
ints_good op.Times a b o h = exactly_good (a *ℤ b)
ints_good op.Divide a (pos zero) o h = tt
ints_good op.Divide a (pos (suc n)) o h = exactly_good (int_div a (pos (suc n)))
ints_good op.Divide a (negsuc n) o h = exactly_good (int_div a (negsuc n))
ints_good op.Remainder a (pos zero) o h = tt
ints_good op.Remainder a (pos (suc n)) o h = left_good a (pos (suc n)) h
ints_good op.Remainder a (negsuc n) o h = left_good a (negsuc n) h

wrapped_fits : (n : ℕ) → nat_lt (n % 2 ^ 32) (2 ^ 32) ≡ true
wrapped_fits n = below (n % 2 ^ 32) (omega arith)

quotients_good : (a b : ℕ) → a < 2 ^ 32 → IsGood (Some type.Unsigned) (divided a b (λ x y. x / y))
quotients_good a zero h = tt
quotients_good a (suc n) h = (refl, below (a / suc n) (let small = small_quotient a n in omega (arith, h, small)))

remainders_good : (a b : ℕ) → a < 2 ^ 32 → IsGood (Some type.Unsigned) (divided a b (λ x y. x % y))
remainders_good a zero h = tt
remainders_good a (suc n) h = (refl, below (a % suc n) (let small = small_remainder a (suc n) in omega (arith, h, small)))

unsigned_good : (o : BinaryOp) (a b : ℕ) → IsWhole o → a < 2 ^ 32 → b < 2 ^ 32 → IsGood (binary_kind o type.Unsigned type.Unsigned) (on_unsigned o a b)
unsigned_good op.Or a b o h g = absurd o
unsigned_good op.And a b o h g = absurd o
unsigned_good op.BitOr a b o h g = (refl, below _ (or_of_32 a b h g))
unsigned_good op.BitXor a b o h g = (refl, below _ (xor_of_32 a b h g))
unsigned_good op.BitAnd a b o h g = (refl, below _ (let small = and_le_l a b in omega (arith, h, small)))
unsigned_good op.Equal a b o h g = (refl, truth_fits _)
unsigned_good op.Unequal a b o h g = (refl, truth_fits _)
unsigned_good op.Less a b o h g = (refl, truth_fits _)
unsigned_good op.More a b o h g = (refl, truth_fits _)
unsigned_good op.LessEqual a b o h g = (refl, truth_fits _)
unsigned_good op.MoreEqual a b o h g = (refl, truth_fits _)
unsigned_good op.Plus a b o h g = (refl, wrapped_fits _)
unsigned_good op.Minus a b o h g = (refl, wrapped_fits _)
unsigned_good op.Times a b o h g = (refl, wrapped_fits _)
unsigned_good op.Divide a b o h g = quotients_good a b h
unsigned_good op.Remainder a b o h g = remainders_good a b h

int_beside : (o : BinaryOp) → binary_kind o type.Int type.Unsigned ≡ binary_kind o type.Unsigned type.Unsigned
int_beside op.Or = refl
int_beside op.And = refl
int_beside op.BitOr = refl
int_beside op.BitXor = refl
int_beside op.BitAnd = refl
int_beside op.Equal = refl
int_beside op.Unequal = refl
int_beside op.Less = refl
int_beside op.More = refl
int_beside op.LessEqual = refl
int_beside op.MoreEqual = refl
int_beside op.Plus = refl
int_beside op.Minus = refl
int_beside op.Times = refl
int_beside op.Divide = refl
int_beside op.Remainder = refl

beside_int : (o : BinaryOp) → binary_kind o type.Unsigned type.Int ≡ binary_kind o type.Unsigned type.Unsigned
beside_int op.Or = refl
beside_int op.And = refl
beside_int op.BitOr = refl
beside_int op.BitXor = refl
beside_int op.BitAnd = refl
beside_int op.Equal = refl
beside_int op.Unequal = refl
beside_int op.Less = refl
beside_int op.More = refl
beside_int op.LessEqual = refl
beside_int op.MoreEqual = refl
beside_int op.Plus = refl
beside_int op.Minus = refl
beside_int op.Times = refl
beside_int op.Divide = refl
beside_int op.Remainder = refl

unsigned_below : (n : Number) → NumberFits n → unsigned_of n < 2 ^ 32
unsigned_below (numeral.Int (pos n)) h = omega arith
unsigned_below (numeral.Int (negsuc n)) h = omega arith
unsigned_below (numeral.Unsigned n) h = is_below n h

pub operated_good : (o : BinaryOp) (a b : Number) → IsWhole o → NumberFits a → NumberFits b → IsGood (binary_kind o (kind_of a) (kind_of b)) (operate o a b)
operated_good o (numeral.Int a) (numeral.Int b) w h g = ints_good o a b w h
operated_good o (numeral.Int a) (numeral.Unsigned b) w h g = subst (λ k. IsGood k (on_unsigned o (unsigned_of (numeral.Int a)) b)) (sym (int_beside o))
    (unsigned_good o (unsigned_of (numeral.Int a)) b w (unsigned_below (numeral.Int a) h) (is_below b g))
operated_good o (numeral.Unsigned a) (numeral.Int b) w h g = subst (λ k. IsGood k (on_unsigned o a (unsigned_of (numeral.Int b)))) (sym (beside_int o))
    (unsigned_good o a (unsigned_of (numeral.Int b)) w (is_below a h) (unsigned_below (numeral.Int b) g))
operated_good o (numeral.Unsigned a) (numeral.Unsigned b) w h g = unsigned_good o a b w (is_below a h) (is_below b g)

pub prefix_good : (o : UnaryOp) (n : Number) → NumberFits n → IsGood (prefix_kind o (kind_of n)) (operate_prefix o n)
prefix_good prefix.Minus (numeral.Int z) h = exactly_good (neg_ℤ z)
prefix_good prefix.Minus (numeral.Unsigned n) h = (refl, wrapped_fits _)
prefix_good prefix.Not (numeral.Int z) h = (refl, truth_fits _)
prefix_good prefix.Not (numeral.Unsigned n) h = (refl, truth_fits _)
prefix_good prefix.Flip (numeral.Int z) h = tt
prefix_good prefix.Flip (numeral.Unsigned n) h = (refl, below ((2 ^ 32 - 1) - n) (omega arith))
prefix_good prefix.Address n h = tt
prefix_good prefix.Follow n h = tt

-- a number that is converted
pub int_fits : (n : Number) → NumberFits n → is_int (int_of n) ≡ true
int_fits (numeral.Int z) h = h
int_fits (numeral.Unsigned n) h = by (nat_lt n (2 ^ 31)) refl
  where
    by : (b : Bool) → nat_lt n (2 ^ 31) ≡ b → is_int (if b then pos n else neg_ℤ (pos (2 ^ 32 - n))) ≡ true
    by true e = int_pos n (grind (arith, nat_tests, e))
    by false e = let large : 2 ^ 31 ≤ n = grind (arith, nat_tests, e) in int_opposite (2 ^ 32 - n) (omega (arith, large))

pub unsigned_fits : (n : Number) → NumberFits n → nat_lt (unsigned_of n) (2 ^ 32) ≡ true
unsigned_fits n h = below (unsigned_of n) (unsigned_below n h)
