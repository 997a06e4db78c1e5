-- The values of cases: constants are in the range of their types, and there two that are the same `int` are the same modulo 2^32.
use Rattle.std.proofs.Common.{◌≡◌, ◌∙◌, ℕ, zero, suc, ◌+◌, ◌-◌, ◌*◌, ◌/◌, ◌%◌, ◌^◌, ◌<◌, ◌≤◌, ℤ, pos, negsuc, neg_ℤ, ◌+ℤ◌, ◌-ℤ◌, ◌*ℤ◌}
use Rattle.std.proofs.Common.{int_div, int_rem, arith, nat_lt, nat_le, Bool, true, false, Option, Some, None, Result, Ok, Err}
use Rattle.std.proofs.Common.{if◌then◌else◌, refl, sym, ap, subst}
use Rattle.std.proofs.lemmas.Bool.Decides.{nat_tests}
use Rattle.std.proofs.lemmas.Nat.{or_of_32, xor_of_32, and_le_l, mod_below}
use Rattle.tsa_tree.specs.declared.expr.BinaryOp.{BinaryOp}
use Rattle.tsa_tree.specs.declared.expr.BinaryOp.TheVariants as op
use Rattle.tsa_tree.specs.declared.expr.UnaryOp.{UnaryOp}
use Rattle.tsa_tree.specs.declared.expr.UnaryOp.TheVariants as prefix
use Rattle.tsa_tree.specs.declared.kind.ExpressionType.{ExpressionType}
use Rattle.tsa_tree.specs.declared.number.Number.{Number}
use Rattle.tsa_tree.specs.declared.number.Number.TheVariants as numeral
use Rattle.tsa_tree.specs.declared.number.Trap.{Trap}
use Rattle.tsa_tree.specs.declared.number.Trap.TheVariants.{Overflow}
use Rattle.tsa_tree.specs.expressions.Sound.{Words, is_sound, is_value}
use Rattle.tsa_tree.specs.expressions.Syntax.{Expression, number, null, named, call, unary, binary, field, index}
use Rattle.tsa_tree.specs.types.Arithmetic.{exactly, truth, unsigned_of, int_of, is_nonzero, is_int, on_int, on_unsigned, operate}
use Rattle.tsa_tree.specs.types.Arithmetic.{operate_prefix, divided}
use Rattle.tsa_tree.specs.types.Constants.{enumerator, number_value, named_value, go_on, as_truth, worked, worked_binary, without_trap}
use Rattle.tsa_tree.specs.types.Constants.{is_made_of_constants, constant_of}
use Rattle.tsa_tree.specs.types.DeclaredTypes.{typed_value, value_in}
use Rattle.tsa_tree.specs.types.Expressions.{type_of}
use Rattle.tsa_tree.specs.types.Known.{Context}
use Rattle.tsa_core.proofs.KindTests.{both_true}
use Rattle.tsa_core.proofs.TypedTerms.{some_same}
use Rattle.tsa_core.proofs.CaseLists.{InRange}

-- What is worked out without a trap is in range.
abbrev Fits : Result Number Trap → Type 0
Fits (Ok n) = InRange n
Fits (Err trap) = Unit {0}

goes_on : (r : Result Number Trap) (f : Number → Result Number Trap) → Fits r → ((n : Number) → InRange n → Fits (f n)) → Fits (go_on r f)
goes_on (Ok n) f h g = g n h
goes_on (Err trap) f h g = tt

truth_fits : (r : Result Number Trap) → Fits r → Fits (as_truth r)
truth_fits r h = goes_on r (λ n. Ok (truth (is_nonzero n))) h (λ n g. tt)

if_fits : (b : Bool) (r s : Result Number Trap) → Fits r → Fits s → Fits (if b then r else s)
if_fits true r s h g = h
if_fits false r s h g = g

exactly_fits : (z : ℤ) → Fits (exactly z)
exactly_fits z = if_fits (is_int z) (Ok (numeral.Int z)) (Err Overflow) tt tt

below : (n : ℕ) → n % 2 ^ 32 < 2 ^ 32
below n = mod_below n (2 ^ 32) (omega arith)

pub unsigned_below : (n : Number) → InRange n → unsigned_of n < 2 ^ 32
unsigned_below (numeral.Int (pos n)) h = below n
unsigned_below (numeral.Int (negsuc n)) h = omega arith
unsigned_below (numeral.Unsigned n) h = h

literal_fits : (n : ℕ) (u : Bool) → is_value n u ≡ true → InRange (number_value n u)
literal_fits n true h = grind (arith, nat_tests, h)
literal_fits n false h = by (nat_le (2 ^ 31) n)
  where
    by : (b : Bool) → InRange (if b then numeral.Unsigned n else numeral.Int (pos n))
    by true = grind (arith, nat_tests, h)
    by false = tt

named_fits : (o : Option ℤ) → InRange (named_value o)
named_fits None = tt
named_fits (Some z) = tt

prefix_fits : (o : UnaryOp) (n : Number) → InRange n → Fits (operate_prefix o n)
prefix_fits prefix.Minus (numeral.Int z) h = exactly_fits (neg_ℤ z)
prefix_fits prefix.Minus (numeral.Unsigned n) h = below (2 ^ 32 - n)
prefix_fits prefix.Not n h = tt
prefix_fits prefix.Flip n h = omega arith
prefix_fits prefix.Address n h = h
prefix_fits prefix.Follow n h = h

int_fits : (o : BinaryOp) (a b : ℤ) → Fits (on_int o a b)
int_fits op.Equal a b = tt
int_fits op.Unequal a b = tt
int_fits op.Less a b = tt
int_fits op.More a b = tt
int_fits op.LessEqual a b = tt
int_fits op.MoreEqual a b = tt
int_fits op.Plus a b = exactly_fits (a +ℤ b)
int_fits op.Minus a b = exactly_fits (a -ℤ b)
int_fits op.Times a b = exactly_fits (a *ℤ b)
int_fits op.Divide a (pos zero) = tt
int_fits op.Divide a (pos (suc n)) = exactly_fits (int_div a (pos (suc n)))
int_fits op.Divide a (negsuc n) = exactly_fits (int_div a (negsuc n))
int_fits op.Remainder a (pos zero) = tt
int_fits op.Remainder a (pos (suc n)) = if_fits (is_int (int_div a (pos (suc n)))) (Ok (numeral.Int (int_rem a (pos (suc n))))) (Err Overflow) tt tt
int_fits op.Remainder a (negsuc n) = if_fits (is_int (int_div a (negsuc n))) (Ok (numeral.Int (int_rem a (negsuc n)))) (Err Overflow) tt tt
int_fits op.Or a b = tt
int_fits op.And a b = tt
int_fits op.BitOr a b = tt
int_fits op.BitXor a b = tt
int_fits op.BitAnd a b = tt

quotient_small : (a b : ℕ) → a / suc b ≤ a
quotient_small a b = omega arith

remainder_small : (a b : ℕ) → a % suc b ≤ a
remainder_small a b = omega arith

divided_fits : (a b : ℕ) (f : ℕ → ℕ → ℕ) → ((n : ℕ) → f a (suc n) ≤ a) → a < 2 ^ 32 → Fits (divided a b f)
divided_fits a zero f small h = tt
divided_fits a (suc n) f small h = let less = small n in omega (arith, less, h)

unsigned_fits : (o : BinaryOp) (a b : ℕ) → a < 2 ^ 32 → b < 2 ^ 32 → Fits (on_unsigned o a b)
unsigned_fits op.BitOr a b h g = or_of_32 a b h g
unsigned_fits op.BitXor a b h g = xor_of_32 a b h g
unsigned_fits op.BitAnd a b h g = let less = and_le_l a b in omega (arith, less, h)
unsigned_fits op.Equal a b h g = tt
unsigned_fits op.Unequal a b h g = tt
unsigned_fits op.Less a b h g = tt
unsigned_fits op.More a b h g = tt
unsigned_fits op.LessEqual a b h g = tt
unsigned_fits op.MoreEqual a b h g = tt
unsigned_fits op.Plus a b h g = below (a + b)
unsigned_fits op.Minus a b h g = below (a + (2 ^ 32 - b))
unsigned_fits op.Times a b h g = below (a * b)
unsigned_fits op.Divide a b h g = divided_fits a b (λ x y. x / y) (quotient_small a) h
unsigned_fits op.Remainder a b h g = divided_fits a b (λ x y. x % y) (remainder_small a) h
unsigned_fits op.Or a b h g = omega arith
unsigned_fits op.And a b h g = omega arith

operated_fits : (o : BinaryOp) (a b : Number) → InRange a → InRange b → Fits (operate o a b)
operated_fits o (numeral.Int a) (numeral.Int b) h g = int_fits o a b
operated_fits o (numeral.Int a) (numeral.Unsigned b) h g =
    unsigned_fits o (unsigned_of (numeral.Int a)) b (unsigned_below (numeral.Int a) h) g
operated_fits o (numeral.Unsigned a) b h g = unsigned_fits o a (unsigned_of b) h (unsigned_below b g)

binary_fits : (o : BinaryOp) (r s : Result Number Trap) → Fits r → Fits s → Fits (worked_binary o r s)
binary_fits op.Or r s h g = goes_on r _ h (λ n k. if_fits (is_nonzero n) (Ok (truth true)) (as_truth s) tt (truth_fits s g))
binary_fits op.And r s h g = goes_on r _ h (λ n k. if_fits (is_nonzero n) (as_truth s) (Ok (truth false)) (truth_fits s g) tt)
binary_fits op.BitOr r s h g = goes_on r _ h (λ n k. goes_on s _ g (λ m l. operated_fits op.BitOr n m k l))
binary_fits op.BitXor r s h g = goes_on r _ h (λ n k. goes_on s _ g (λ m l. operated_fits op.BitXor n m k l))
binary_fits op.BitAnd r s h g = goes_on r _ h (λ n k. goes_on s _ g (λ m l. operated_fits op.BitAnd n m k l))
binary_fits op.Equal r s h g = goes_on r _ h (λ n k. goes_on s _ g (λ m l. operated_fits op.Equal n m k l))
binary_fits op.Unequal r s h g = goes_on r _ h (λ n k. goes_on s _ g (λ m l. operated_fits op.Unequal n m k l))
binary_fits op.Less r s h g = goes_on r _ h (λ n k. goes_on s _ g (λ m l. operated_fits op.Less n m k l))
binary_fits op.More r s h g = goes_on r _ h (λ n k. goes_on s _ g (λ m l. operated_fits op.More n m k l))
binary_fits op.LessEqual r s h g = goes_on r _ h (λ n k. goes_on s _ g (λ m l. operated_fits op.LessEqual n m k l))
binary_fits op.MoreEqual r s h g = goes_on r _ h (λ n k. goes_on s _ g (λ m l. operated_fits op.MoreEqual n m k l))
binary_fits op.Plus r s h g = goes_on r _ h (λ n k. goes_on s _ g (λ m l. operated_fits op.Plus n m k l))
binary_fits op.Minus r s h g = goes_on r _ h (λ n k. goes_on s _ g (λ m l. operated_fits op.Minus n m k l))
binary_fits op.Times r s h g = goes_on r _ h (λ n k. goes_on s _ g (λ m l. operated_fits op.Times n m k l))
binary_fits op.Divide r s h g = goes_on r _ h (λ n k. goes_on s _ g (λ m l. operated_fits op.Divide n m k l))
binary_fits op.Remainder r s h g = goes_on r _ h (λ n k. goes_on s _ g (λ m l. operated_fits op.Remainder n m k l))

worked_fits : (c : Context) (words : Words) (e : Expression) → is_sound words e ≡ true → Fits (worked c e)
worked_fits c words (number n u span) h = literal_fits n u h
worked_fits c words (named name span) h = named_fits (enumerator (c.known name.text))
worked_fits c words (unary o inner span) h = goes_on (worked c inner) (operate_prefix o) (worked_fits c words inner h) (prefix_fits o)
worked_fits c words (binary o left right span) h =
    let both = both_true (is_sound words left) (is_sound words right) h in
    binary_fits o (worked c left) (worked c right) (worked_fits c words left both.0) (worked_fits c words right both.1)
worked_fits c words (null span) h = tt
worked_fits c words (call callee args span) h = tt
worked_fits c words (field base name arrow span) h = tt
worked_fits c words (index base at span) h = tt

pub value_fits : (c : Context) (words : Words) (e : Expression) (n : Number) → is_sound words e ≡ true → value_in c e ≡ Some n → InRange n
unfolding constant_of
value_fits c words e n sound is = typed (type_of c e) is
  where
    result : (r : Result Number Trap) → Fits r → without_trap r ≡ Some n → InRange n
    result (Ok m) h e = subst InRange (some_same e) h
    result (Err trap) h e = cc

    made : (b : Bool) → (if b then without_trap (worked c e) else None) ≡ Some n → InRange n
    made true h = result (worked c e) (worked_fits c words e sound) h
    made false h = cc

    typed : (o : Option ExpressionType) → typed_value o (constant_of c e) ≡ Some n → InRange n
    typed None h = cc
    typed (Some t) h = made (is_made_of_constants c e) h

-- a number that is converted to `int` and back is the same
negative_back : (d : ℕ) → 0 < d → d ≤ 2 ^ 31 → unsigned_of (numeral.Int (neg_ℤ (pos d))) ≡ 2 ^ 32 - d
negative_back zero h g = absurd (omega (arith, h))
negative_back (suc k) h g = omega (arith, g)

unsigned_back : (m : ℕ) → m < 2 ^ 32 → unsigned_of (numeral.Int (int_of (numeral.Unsigned m))) ≡ m
unsigned_back m h = by (nat_lt m (2 ^ 31)) refl
  where
    by : (b : Bool) → nat_lt m (2 ^ 31) ≡ b → unsigned_of (numeral.Int (if b then pos m else neg_ℤ (pos (2 ^ 32 - m)))) ≡ m
    by true e = omega (arith, h)
    by false e =
        let large : 2 ^ 31 ≤ m = grind (arith, nat_tests, e) in
        negative_back (2 ^ 32 - m) (omega (arith, h)) (omega (arith, large)) ∙ omega (arith, h)

number_back : (n : Number) → InRange n → unsigned_of (numeral.Int (int_of n)) ≡ unsigned_of n
number_back (numeral.Int z) h = refl
number_back (numeral.Unsigned m) h = unsigned_back m h

pub same_int : (n m : Number) → InRange n → InRange m → int_of n ≡ int_of m → unsigned_of n ≡ unsigned_of m
same_int n m h g e = sym (number_back n h) ∙ ap (λ z. unsigned_of (numeral.Int z)) e ∙ number_back m g
