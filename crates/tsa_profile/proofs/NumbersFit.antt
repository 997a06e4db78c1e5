-- An `int` that a constant expression is worked out to is in the range of `int`, where the enumerators that are known are.
use Rattle.std.proofs.Common.{◌≡◌, ℕ, zero, suc, ◌-◌, ◌/◌, ◌%◌, ◌^◌, ◌≤◌, ℤ, pos, negsuc, neg_ℤ, ◌+ℤ◌, ◌-ℤ◌, ◌*ℤ◌, int_div, int_rem, arith}
use Rattle.std.proofs.Common.{nat_lt, nat_le, List, Bool, true, false, Option, Some, None, Result, Ok, Err, if◌then◌else◌, refl, subst}
use Rattle.std.proofs.lemmas.Bool.Decides.{nat_tests}
use Rattle.tsa_tree.specs.declared.expr.BinaryOp.{BinaryOp}
use Rattle.tsa_tree.specs.declared.expr.BinaryOp.TheVariants as op
use Rattle.tsa_tree.specs.declared.expr.UnaryOp.{UnaryOp}
use Rattle.tsa_tree.specs.declared.expr.UnaryOp.TheVariants as prefix
use Rattle.tsa_tree.specs.declared.kind.ExpressionType.{ExpressionType}
use Rattle.tsa_tree.specs.declared.number.Number.{Number}
use Rattle.tsa_tree.specs.declared.number.Number.TheVariants as numeral
use Rattle.tsa_tree.specs.declared.number.Trap.{Trap}
use Rattle.tsa_tree.specs.declared.number.Trap.TheVariants.{Overflow}
use Rattle.tsa_tree.specs.expressions.Syntax.{Expression, number, null, named, call, unary, binary, field, index}
use Rattle.tsa_tree.specs.types.Arithmetic.{exactly, truth, unsigned_of, int_of, is_nonzero, is_int, on_int, on_unsigned, operate}
use Rattle.tsa_tree.specs.types.Arithmetic.{operate_prefix, divided}
use Rattle.tsa_tree.specs.types.Constants.{enumerator, number_value, named_value, go_on, as_truth, worked, worked_binary, without_trap}
use Rattle.tsa_tree.specs.types.Constants.{is_made_of_constants, constant_of}
use Rattle.tsa_tree.specs.types.DeclaredTypes.{typed_value, value_in}
use Rattle.tsa_tree.specs.types.Expressions.{type_of}
use Rattle.tsa_tree.specs.types.Known.{Context}
use Rattle.tsa_core.proofs.CaseLists.{InRange}
use Rattle.tsa_core.proofs.TypedTerms.{some_same}
use Rattle.tsa_core.proofs.IntRange.{int_opposite, int_pos, remainder_fits}

abbrev pub IsFit : Number → Type 0
IsFit (numeral.Int z) = is_int z ≡ true
IsFit (numeral.Unsigned n) = Unit {0}

abbrev Fits : Result Number Trap → Type 0
Fits (Ok n) = IsFit n
Fits (Err trap) = Unit {0}

on : (r : Result Number Trap) (f : Number → Result Number Trap) → Fits r → ((n : Number) → IsFit n → Fits (f n)) → Fits (go_on r f)
on (Ok n) f h g = g n h
on (Err trap) f h g = tt

truth_fit : (b : Bool) → IsFit (truth b)
truth_fit true = int_pos 1 (omega arith)
truth_fit false = int_pos 0 (omega arith)

as_truth_fits : (r : Result Number Trap) → Fits r → Fits (as_truth r)
as_truth_fits r h = on r (λ n. Ok (truth (is_nonzero n))) h (λ n g. truth_fit (is_nonzero n))

if_fits : (b : Bool) (r s : Result Number Trap) → (b ≡ true → Fits r) → Fits s → Fits (if b then r else s)
if_fits true r s h g = h refl
if_fits false r s h g = g

exactly_fits : (z : ℤ) → Fits (exactly z)
exactly_fits z = if_fits (is_int z) (Ok (numeral.Int z)) (Err Overflow) (λ e. e) tt

literal_fits : (n : ℕ) (u : Bool) → IsFit (number_value n u)
literal_fits n true = tt
literal_fits n false = by (nat_le (2 ^ 31) n) refl
  where
    by : (b : Bool) → nat_le (2 ^ 31) n ≡ b → IsFit (if b then numeral.Unsigned n else numeral.Int (pos n))
    by true e = tt
    by false e = int_pos n (grind (arith, nat_tests, e))

prefix_fits : (o : UnaryOp) (n : Number) → IsFit n → Fits (operate_prefix o n)
prefix_fits prefix.Minus (numeral.Int z) h = exactly_fits (neg_ℤ z)
prefix_fits prefix.Minus (numeral.Unsigned n) h = tt
prefix_fits prefix.Not n h = truth_fit _
prefix_fits prefix.Flip n h = tt
prefix_fits prefix.Address n h = h
prefix_fits prefix.Follow n h = h

int_fits : (o : BinaryOp) (a b : ℤ) → is_int a ≡ true → Fits (on_int o a b)
int_fits op.Equal a b h = truth_fit _
int_fits op.Unequal a b h = truth_fit _
int_fits op.Less a b h = truth_fit _
int_fits op.More a b h = truth_fit _
int_fits op.LessEqual a b h = truth_fit _
int_fits op.MoreEqual a b h = truth_fit _
int_fits op.Plus a b h = exactly_fits (a +ℤ b)
int_fits op.Minus a b h = exactly_fits (a -ℤ b)
int_fits op.Times a b h = exactly_fits (a *ℤ b)
int_fits op.Divide a (pos zero) h = tt
int_fits op.Divide a (pos (suc n)) h = exactly_fits (int_div a (pos (suc n)))
int_fits op.Divide a (negsuc n) h = exactly_fits (int_div a (negsuc n))
int_fits op.Remainder a (pos zero) h = tt
int_fits op.Remainder a (pos (suc n)) h =
    if_fits (is_int (int_div a (pos (suc n)))) (Ok (numeral.Int (int_rem a (pos (suc n))))) (Err Overflow) (λ e. remainder_fits a (pos (suc n)) h) tt
int_fits op.Remainder a (negsuc n) h =
    if_fits (is_int (int_div a (negsuc n))) (Ok (numeral.Int (int_rem a (negsuc n)))) (Err Overflow) (λ e. remainder_fits a (negsuc n) h) tt
int_fits op.Or a b h = int_pos 0 (omega arith)
int_fits op.And a b h = int_pos 0 (omega arith)
int_fits op.BitOr a b h = int_pos 0 (omega arith)
int_fits op.BitXor a b h = int_pos 0 (omega arith)
int_fits op.BitAnd a b h = int_pos 0 (omega arith)

divided_fits : (a b : ℕ) (f : ℕ → ℕ → ℕ) → Fits (divided a b f)
divided_fits a zero f = tt
divided_fits a (suc n) f = tt

unsigned_fits : (o : BinaryOp) (a b : ℕ) → Fits (on_unsigned o a b)
unsigned_fits op.BitOr a b = tt
unsigned_fits op.BitXor a b = tt
unsigned_fits op.BitAnd a b = tt
unsigned_fits op.Equal a b = truth_fit _
unsigned_fits op.Unequal a b = truth_fit _
unsigned_fits op.Less a b = truth_fit _
unsigned_fits op.More a b = truth_fit _
unsigned_fits op.LessEqual a b = truth_fit _
unsigned_fits op.MoreEqual a b = truth_fit _
unsigned_fits op.Plus a b = tt
unsigned_fits op.Minus a b = tt
unsigned_fits op.Times a b = tt
unsigned_fits op.Divide a b = divided_fits a b (λ x y. x / y)
unsigned_fits op.Remainder a b = divided_fits a b (λ x y. x % y)
unsigned_fits op.Or a b = tt
unsigned_fits op.And a b = tt

operated_fits : (o : BinaryOp) (a b : Number) → IsFit a → Fits (operate o a b)
operated_fits o (numeral.Int a) (numeral.Int b) h = int_fits o a b h
operated_fits o (numeral.Int a) (numeral.Unsigned b) h = unsigned_fits o (unsigned_of (numeral.Int a)) b
operated_fits o (numeral.Unsigned a) b h = unsigned_fits o a (unsigned_of b)

both_fit : (o : BinaryOp) (r s : Result Number Trap) → Fits r → Fits s → Fits (go_on r (λ a. go_on s (λ b. operate o a b)))
both_fit o r s h g = on r _ h (λ n k. on s _ g (λ m l. operated_fits o n m k))

binary_fits : (o : BinaryOp) (r s : Result Number Trap) → Fits r → Fits s → Fits (worked_binary o r s)
binary_fits op.Or r s h g = on r _ h (λ n k. if_fits (is_nonzero n) (Ok (truth true)) (as_truth s) (λ e. truth_fit true) (as_truth_fits s g))
binary_fits op.And r s h g = on r _ h (λ n k. if_fits (is_nonzero n) (as_truth s) (Ok (truth false)) (λ e. as_truth_fits s g) (truth_fit false))
binary_fits op.BitOr r s h g = both_fit op.BitOr r s h g
binary_fits op.BitXor r s h g = both_fit op.BitXor r s h g
binary_fits op.BitAnd r s h g = both_fit op.BitAnd r s h g
binary_fits op.Equal r s h g = both_fit op.Equal r s h g
binary_fits op.Unequal r s h g = both_fit op.Unequal r s h g
binary_fits op.Less r s h g = both_fit op.Less r s h g
binary_fits op.More r s h g = both_fit op.More r s h g
binary_fits op.LessEqual r s h g = both_fit op.LessEqual r s h g
binary_fits op.MoreEqual r s h g = both_fit op.MoreEqual r s h g
binary_fits op.Plus r s h g = both_fit op.Plus r s h g
binary_fits op.Minus r s h g = both_fit op.Minus r s h g
binary_fits op.Times r s h g = both_fit op.Times r s h g
binary_fits op.Divide r s h g = both_fit op.Divide r s h g
binary_fits op.Remainder r s h g = both_fit op.Remainder r s h g

-- the enumerators that are known are in range
abbrev pub IsSmall : Option ℤ → Type 0
IsSmall None = Unit {0}
IsSmall (Some z) = is_int z ≡ true

named_fits : (o : Option ℤ) → IsSmall o → IsFit (named_value o)
named_fits None h = int_pos 0 (omega arith)
named_fits (Some z) h = h

module _ (c : Context) (small : (name : List ℕ) → IsSmall (enumerator (c.known name))) where
  worked_fits : (e : Expression) → Fits (worked c e)
  worked_fits (number n u span) = literal_fits n u
  worked_fits (named name span) = named_fits (enumerator (c.known name.text)) (small name.text)
  worked_fits (unary o inner span) = on (worked c inner) (operate_prefix o) (worked_fits inner) (prefix_fits o)
  worked_fits (binary o left right span) = binary_fits o (worked c left) (worked c right) (worked_fits left) (worked_fits right)
  worked_fits (null span) = int_pos 0 (omega arith)
  worked_fits (call callee args span) = int_pos 0 (omega arith)
  worked_fits (field base name arrow span) = int_pos 0 (omega arith)
  worked_fits (index base at span) = int_pos 0 (omega arith)

  pub value_is_fit : (e : Expression) (n : Number) → value_in c e ≡ Some n → IsFit n
  unfolding constant_of
  value_is_fit e n is = typed (type_of c e) is
    where
      result : (r : Result Number Trap) → Fits r → without_trap r ≡ Some n → IsFit n
      result (Ok m) h e = subst IsFit (some_same e) h
      result (Err trap) h e = cc

      made : (b : Bool) → (if b then without_trap (worked c e) else None) ≡ Some n → IsFit n
      made true h = result (worked c e) (worked_fits e) h
      made false h = cc

      typed : (o : Option ExpressionType) → typed_value o (constant_of c e) ≡ Some n → IsFit n
      typed None h = cc
      typed (Some t) h = made (is_made_of_constants c e) h

-- a number that is converted to `int`
pub int_is_int : (n : Number) → IsFit n → InRange n → is_int (int_of n) ≡ true
int_is_int (numeral.Int z) h g = h
int_is_int (numeral.Unsigned n) h g = by (nat_lt n (2 ^ 31)) refl
  where
    by : (b : Bool) → nat_lt n (2 ^ 31) ≡ b → is_int (if b then pos n else neg_ℤ (pos (2 ^ 32 - n))) ≡ true
    by true e = int_pos n (grind (arith, nat_tests, e))
    by false e = let large : 2 ^ 31 ≤ n = grind (arith, nat_tests, e) in int_opposite (2 ^ 32 - n) (omega (arith, large))
