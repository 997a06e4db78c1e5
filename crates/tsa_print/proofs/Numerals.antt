-- A number in decimal is read as that number.
use Rattle.std.proofs.Common.{◌≡◌, ℕ, zero, suc, ◌+◌, ◌-◌, ◌*◌, ◌^◌, ◌<◌, Bool, true, false, ◌==◌, ◌||◌, List, [], ◌∷◌, ◌++◌, length}
use Rattle.std.proofs.Common.{get_or, Some, refl, ◌∙◌, append-nil, arith}
use Rattle.std.proofs.lemmas.Bool.{and_parts}
use Rattle.std.proofs.lemmas.Bool.Decides.{nat_tests}
use Rattle.std.proofs.lemmas.Fmt.{decimal_is_IsNumeral, decimal_digit, first_decimal}
use Rattle.std.proofs.lemmas.Str.Parse.{digit_from_value}
use Rattle.std.specs.Prelude.{codes, nat_le, nat_lt, if◌then◌else◌}
use Rattle.std.specs.Fmt.{decimal}
use Rattle.std.specs.List.{list_all}
use Rattle.std.specs.Char.{digit_value as glyph_value}
use Rattle.std.specs.Str.Parse.{AllDigits, digits_value_after}
use Rattle.tsa_base.specs.declared.token.TokenKind.TheVariants.{Number}
use Rattle.tsa_base.specs.Bytes.{is_digit}
use Rattle.tsa_base.specs.Numbers.{has_suffix, without_suffix, base_of, digits_of, digit_value, is_digit_in, value_in, number_in, number_of}
use Rattle.tsa_tree.specs.expressions.Sound.{is_value}

-- digits with no 0 before others
pub record IsDecimal (value : ℕ) (ds : List ℕ) : Type 0 where
  pub some : 0 < length ds
  pub digits : list_all is_digit ds ≡ true
  pub first : base_of ds ≡ 10
  pub is : value_in 10 0 ds ≡ value

-- the same digit, in the kit's words
glyph : (c : ℕ) → glyph_value c < 10 → (is_digit c ≡ true) × (digit_value c ≡ glyph_value c)
glyph c small = let within = digit_from_value c small in (grind (arith, nat_tests), grind (arith, nat_tests))

all_glyphs : (ds : List ℕ) → AllDigits 10 ds → list_all is_digit ds ≡ true
all_glyphs [] all = refl
all_glyphs (c ∷ cs) all = rw ((glyph c all.0).0, all_glyphs cs all.1) refl

glyphs_value : (n : ℕ) (ds : List ℕ) → AllDigits 10 ds → value_in 10 n ds ≡ digits_value_after 10 n ds
glyphs_value n [] all = refl
glyphs_value n (c ∷ cs) all =
    let one : 10 * n + digit_value c ≡ n * 10 + glyph_value c = let same = (glyph c all.0).1 in omega arith in
    rw one (glyphs_value (n * 10 + glyph_value c) cs all.1)

no_zero : (ds : List ℕ) → 48 < get_or ds 0 0 → base_of ds ≡ 10
no_zero [] high = refl
no_zero (c ∷ []) high = refl
no_zero (c ∷ d ∷ ds) high = let other : (c == 48) ≡ false = grind (arith, nat_tests) in rw other refl

first_base : (n : ℕ) → n < 2 ^ 64 → base_of (decimal n) ≡ 10
first_base zero small = rw (decimal_digit zero (omega arith)) refl
first_base (suc n) small = no_zero (decimal (suc n)) (first_decimal (suc n) (omega arith) small)

pub decimal-IsDecimal : (n : ℕ) → n < 2 ^ 64 → IsDecimal n (decimal n)
decimal-IsDecimal n small =
    let numeral = decimal_is_IsNumeral n small in
    record {
      some = numeral.0.0;
      digits = all_glyphs (decimal n) numeral.0.1;
      first = first_base n small;
      is = glyphs_value 0 (decimal n) numeral.0.1 ∙ numeral.1;
    }

-- Behind its digits a number may have a suffix.

abbrev pub suffix : Bool → List ℕ
suffix unsigned = if unsigned then codes "u" else []

digit_no_suffix : (ds : List ℕ) → list_all is_digit ds ≡ true → has_suffix ds ≡ false
digit_no_suffix [] all = refl
digit_no_suffix (c ∷ []) all =
    let digit : is_digit c ≡ true = (and_parts (is_digit c) true all).0 in
    grind (arith, nat_tests)
digit_no_suffix (c ∷ d ∷ ds) all = digit_no_suffix (d ∷ ds) (and_parts (is_digit c) (list_all is_digit (d ∷ ds)) all).1

none_without : (ds : List ℕ) → has_suffix ds ≡ false → without_suffix ds ≡ ds
none_without [] none = refl
none_without (c ∷ []) none = rw none refl
none_without (c ∷ d ∷ ds) none = rw (none_without (d ∷ ds) none) refl

has_u : (ds : List ℕ) → has_suffix (ds ++ 117 ∷ []) ≡ true
has_u [] = refl
has_u (c ∷ []) = refl
has_u (c ∷ d ∷ ds) = has_u (d ∷ ds)

without_u : (ds : List ℕ) → without_suffix (ds ++ 117 ∷ []) ≡ ds
without_u [] = refl
without_u (c ∷ []) = refl
without_u (c ∷ d ∷ ds) = rw (without_u (d ∷ ds)) refl

pub has-suffix : (ds : List ℕ) (unsigned : Bool) → list_all is_digit ds ≡ true → has_suffix (ds ++ suffix unsigned) ≡ unsigned
has-suffix ds true all = has_u ds
has-suffix ds false all = rw (append-nil ds) (digit_no_suffix ds all)

pub without-suffix : (ds : List ℕ) (unsigned : Bool) → list_all is_digit ds ≡ true → without_suffix (ds ++ suffix unsigned) ≡ ds
without-suffix ds true all = without_u ds
without-suffix ds false all = rw (append-nil ds) (none_without ds (digit_no_suffix ds all))

digits_tested : (c d : ℕ) (ds : List ℕ) (b hexadecimal : Bool) → (c == 48) ≡ b → ((d == 120) || (d == 88)) ≡ hexadecimal → base_of (c ∷ d ∷ ds) ≡ 10 →
    digits_of (c ∷ d ∷ ds) ≡ c ∷ d ∷ ds
digits_tested c d ds false hexadecimal e f ten = rw e refl
digits_tested c d ds true true e f ten = let wrong : ◌≡◌ {A = ℕ} 16 10 = rw (e, f) at ten in absurd (omega arith)
digits_tested c d ds true false e f ten = let wrong : ◌≡◌ {A = ℕ} 8 10 = rw (e, f) at ten in absurd (omega arith)

decimal_digits : (ds : List ℕ) → base_of ds ≡ 10 → digits_of ds ≡ ds
decimal_digits [] ten = refl
decimal_digits (c ∷ []) ten = refl
decimal_digits (c ∷ d ∷ ds) ten = digits_tested c d ds (c == 48) ((d == 120) || (d == 88)) refl refl ten

digit_in : (c : ℕ) → is_digit c ≡ true → is_digit_in 10 c ≡ true
digit_in c digit =
    let low : nat_lt (c - 48) 10 ≡ true = grind (arith, nat_tests) in
    rw digit low

digits_in : (ds : List ℕ) → list_all is_digit ds ≡ true → list_all (is_digit_in 10) ds ≡ true
digits_in [] all = refl
digits_in (c ∷ ds) all =
    let parts = and_parts (is_digit c) (list_all is_digit ds) all in
    rw (digit_in c parts.0, digits_in ds parts.1) refl

in_limit : (value : ℕ) (unsigned : Bool) (ds : List ℕ) → is_value value unsigned ≡ true → IsDecimal value ds → number_in unsigned 10 ds ≡ Some (Number value unsigned)
in_limit value true ds fits decimal_is =
    let some : nat_lt 0 (length ds) ≡ true = let positive = decimal_is.some in grind (arith, nat_tests) in
    rw (some, digits_in ds decimal_is.digits, decimal_is.is, fits) refl
in_limit value false ds fits decimal_is =
    let some : nat_lt 0 (length ds) ≡ true = let positive = decimal_is.some in grind (arith, nat_tests) in
    let plain : nat_le (2 ^ 31) value ≡ false = grind (arith, nat_tests) in
    rw (some, digits_in ds decimal_is.digits, decimal_is.is, fits, plain) refl

pub value-small : (value : ℕ) (unsigned : Bool) → is_value value unsigned ≡ true → value < 2 ^ 64
value-small value true fits = let bound : value < 2 ^ 32 = grind (arith, nat_tests) in omega arith
value-small value false fits = let bound : value < 2 ^ 31 = grind (arith, nat_tests) in omega arith

-- the digits and the suffix write the number
pub number-read : (value : ℕ) (unsigned : Bool) (ds : List ℕ) → is_value value unsigned ≡ true → IsDecimal value ds →
    number_of (ds ++ suffix unsigned) ≡ Some (Number value unsigned)
unfolding number_of
number-read value unsigned ds fits decimal_is =
    rw (has-suffix ds unsigned decimal_is.digits, without-suffix ds unsigned decimal_is.digits, decimal_is.first, decimal_digits ds decimal_is.first)
    (in_limit value unsigned ds fits decimal_is)
