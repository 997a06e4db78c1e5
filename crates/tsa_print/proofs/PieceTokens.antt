-- Each piece is the next token where it stands, if what follows it may follow it.
use Rattle.std.proofs.Common.{◌≡◌, ℕ, ◌<◌, Bool, true, false, ◌==◌, List, [], ◌∷◌, ◌++◌, length, refl, ◌∙◌, arith}
use Rattle.std.proofs.lemmas.Bool.{and_parts, not-true}
use Rattle.std.proofs.lemmas.Bool.Decides.{nat_tests}
use Rattle.std.proofs.lemmas.List.Folds.{list_all-append}
use Rattle.std.specs.Fmt.{decimal}
use Rattle.std.specs.List.{list_all}
use Rattle.tsa_base.specs.declared.token.TokenKind.TheVariants.{Word, Number, Text}
use Rattle.tsa_base.specs.Bytes.{is_letter, is_digit, is_word_byte, is_run_byte, is_text_byte}
use Rattle.tsa_base.specs.Tokens.{closes, is_token, kind_of}
use Rattle.tsa_base.specs.PieceLaws.{IsNextToken}
use Rattle.tsa_tree.specs.expressions.Sound.{is_value}
use Rattle.tsa_print.specs.Canonical.{Piece, word, numeral}
use Rattle.tsa_print.proofs.Apart.{is_word, follows, follows_first}
use Rattle.tsa_print.proofs.Longer.{IsClosed, closed-longest, no-slash, all-broken}
use Rattle.tsa_print.proofs.Numerals.{IsDecimal, decimal-IsDecimal, suffix, number-read, value-small}

-- the byte after a piece may follow it
pub first-follows : (p : Piece) (behind : List ℕ) (byte : ℕ) (rest : List ℕ) → follows_first p behind ≡ true → behind ≡ byte ∷ rest → follows p byte ≡ true
first-follows p [] byte rest may same = absurd (cc)
first-follows p (c ∷ cs) byte rest may same = let one : byte ≡ c = cc in rw one may

-- Words.

word_closed : (c : ℕ) (cs behind : List ℕ) → is_letter c ≡ true → follows_first (word (c ∷ cs)) behind ≡ true → IsClosed (c ∷ cs) behind
unfolding is_token
word_closed c cs behind letter may byte more rest same =
    let other : is_word_byte byte ≡ false = not-true (is_word_byte byte) (first-follows (word (c ∷ cs)) behind byte rest may same) in
    rw letter (all-broken is_word_byte cs byte more other)

pub word-next : (text behind : List ℕ) → is_word text ≡ true → follows_first (word text) behind ≡ true → IsNextToken Word text behind
unfolding is_token kind_of
word-next [] behind good may = absurd (cc)
word-next (c ∷ cs) behind good may =
    let parts = and_parts (is_letter c) (list_all is_word_byte cs) good in
    let letter : is_letter c ≡ true = parts.0 in
    let other : (c == 47) ≡ false = grind (arith, nat_tests) in
    record {
      next = closed-longest (c ∷ cs) behind (rw letter parts.1) (word_closed c cs behind letter may) (no-slash c (cs ++ behind) other);
      of_kind = rw letter refl;
    }

-- Numbers.

digits_run : (ds : List ℕ) → list_all is_digit ds ≡ true → list_all is_run_byte ds ≡ true
digits_run [] all = refl
digits_run (c ∷ ds) all =
    let parts = and_parts (is_digit c) (list_all is_digit ds) all in
    let digit : is_digit c ≡ true = parts.0 in
    let run : is_run_byte c ≡ true = grind (arith, nat_tests) in
    rw (run, digits_run ds parts.1) refl

suffix_run : (unsigned : Bool) → list_all is_run_byte (suffix unsigned) ≡ true
suffix_run true = refl
suffix_run false = refl

run_closed : (c : ℕ) (cs behind : List ℕ) (value : ℕ) (unsigned : Bool) → is_letter c ≡ false → is_digit c ≡ true →
    follows_first (numeral value unsigned) behind ≡ true → IsClosed (c ∷ cs) behind
unfolding is_token
run_closed c cs behind value unsigned no_letter digit may byte more rest same =
    let other : is_run_byte byte ≡ false = not-true (is_run_byte byte) (first-follows (numeral value unsigned) behind byte rest may same) in
    rw (no_letter, digit) (all-broken is_run_byte cs byte more other)

run_next : (value : ℕ) (unsigned : Bool) (ds behind : List ℕ) → is_value value unsigned ≡ true → IsDecimal value ds →
    follows_first (numeral value unsigned) behind ≡ true → IsNextToken (Number value unsigned) (ds ++ suffix unsigned) behind
unfolding is_token kind_of
run_next value unsigned [] behind fits ds_are may = let some : 0 < 0 = ds_are.some in absurd (omega arith)
run_next value unsigned (c ∷ cs) behind fits ds_are may =
    let parts = and_parts (is_digit c) (list_all is_digit cs) ds_are.digits in
    let digit : is_digit c ≡ true = parts.0 in
    let no_letter : is_letter c ≡ false = grind (arith, nat_tests) in
    let other : (c == 47) ≡ false = grind (arith, nat_tests) in
    let run : list_all is_run_byte (cs ++ suffix unsigned) ≡ true =
    list_all-append is_run_byte cs (suffix unsigned) ∙ rw (digits_run cs parts.1, suffix_run unsigned) refl in
    record {
      next = closed-longest (c ∷ (cs ++ suffix unsigned)) behind (rw (no_letter, digit) run)
          (run_closed c (cs ++ suffix unsigned) behind value unsigned no_letter digit may) (no-slash c ((cs ++ suffix unsigned) ++ behind) other);
      of_kind = rw (no_letter, digit) (number-read value unsigned (c ∷ cs) fits ds_are);
    }

pub numeral-next : (value : ℕ) (unsigned : Bool) (behind : List ℕ) → is_value value unsigned ≡ true →
    follows_first (numeral value unsigned) behind ≡ true → IsNextToken (Number value unsigned) (decimal value ++ suffix unsigned) behind
numeral-next value unsigned behind fits may =
    run_next value unsigned (decimal value) behind fits (decimal-IsDecimal value (value-small value unsigned fits)) may

-- Texts between quotes.

text_closes : (cs : List ℕ) → list_all is_text_byte cs ≡ true → closes is_text_byte 34 (cs ++ 34 ∷ []) ≡ true
text_closes [] all = refl
text_closes (c ∷ cs) all =
    let parts = and_parts (is_text_byte c) (list_all is_text_byte cs) all in
    let inside : is_text_byte c ≡ true = parts.0 in
    rw inside (text_closes cs parts.1)

-- nothing goes on after the quote
text_ends : (cs : List ℕ) (byte : ℕ) (more : List ℕ) → list_all is_text_byte cs ≡ true → closes is_text_byte 34 ((cs ++ 34 ∷ []) ++ byte ∷ more) ≡ false
text_ends [] byte more all = let no : (length (byte ∷ more) == 0) ≡ false = grind (arith, nat_tests) in no
text_ends (c ∷ cs) byte more all =
    let parts = and_parts (is_text_byte c) (list_all is_text_byte cs) all in
    let inside : is_text_byte c ≡ true = parts.0 in
    rw inside (text_ends cs byte more parts.1)

pub text-next : (text behind : List ℕ) → list_all is_text_byte text ≡ true → IsNextToken Text (34 ∷ (text ++ 34 ∷ [])) behind
unfolding is_token kind_of
text-next text behind good = record {
  next = closed-longest (34 ∷ (text ++ 34 ∷ [])) behind (text_closes text good) (λ byte more rest same. text_ends text byte more good)
      (no-slash 34 ((text ++ 34 ∷ []) ++ behind) refl);
  of_kind = refl;
}
