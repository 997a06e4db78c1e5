-- What a text begins with, by its first byte.
use Rattle.std.proofs.Common.{◌≡◌, ◌≢◌, ℕ, zero, suc, ◌+◌, ◌<◌, Bool, true, false, ◌==◌, List, ◌∷◌, length, take, get_or, None, Some, Ok}
use Rattle.std.proofs.Common.{Err, refl, sym, ap, ◌∙◌, arith}
use Rattle.std.proofs.Math.Numerals.{suc-eq-add-one}
use Rattle.std.specs.List.{prefix_len}
use Rattle.tsa_base.specs.declared.token.TokenKind.{TokenKind}
use Rattle.tsa_base.specs.declared.token.TokenKind.TheVariants.{Word, Text, Punct}
use Rattle.tsa_base.specs.declared.token.LexCode.TheVariants.{LX1, LX3, LX4, LX5}
use Rattle.tsa_base.specs.Bytes.{is_letter, is_digit, is_blank, is_word_byte, is_run_byte, is_text_byte}
use Rattle.tsa_base.specs.Numbers.{number_of}
use Rattle.tsa_base.specs.Tokens.{front_of, of_kind, token_front, slash_front, kind_of, line_len, line_word, is_skipped, longest}
use Rattle.tsa_lex.specs.Fronts.{seen}
use Rattle.tsa_lex.proofs.Fronts.{word_longest, run_longest, text_longest, text_none, text_cut_none, sign_none}

pub blank_seen : (opens : Bool) (c : ℕ) (cs : List ℕ) → is_blank c ≡ true → seen (front_of opens (c ∷ cs)) ≡ Ok (None, 1)
unfolding front_of
blank_seen opens c cs is = rw is refl

pub slash_seen : (opens : Bool) (cs : List ℕ) → seen (front_of opens (47 ∷ cs)) ≡ seen (slash_front (47 ∷ cs) cs)
unfolding front_of
slash_seen opens cs = refl

pub other_seen : (opens : Bool) (c : ℕ) (cs : List ℕ) → is_blank c ≡ false → (c == 47) ≡ false → (c == 35) ≡ false → seen (front_of opens (c ∷ cs)) ≡ seen (token_front (c ∷ cs) (longest (c ∷ cs)))
unfolding front_of
other_seen opens c cs blank slash sign = rw (blank, slash, sign) refl

pub sign_skipped : (opens : Bool) (cs : List ℕ) → opens ≡ true → is_skipped (line_word cs) ≡ true → seen (front_of opens (35 ∷ cs)) ≡ Ok (None, line_len (35 ∷ cs))
unfolding front_of
sign_skipped opens cs is skipped = rw (is, skipped) refl

pub sign_refused : (opens : Bool) (cs : List ℕ) → opens ≡ true → is_skipped (line_word cs) ≡ false → seen (front_of opens (35 ∷ cs)) ≡ Err LX4
unfolding front_of
sign_refused opens cs is refused = rw (is, refused) refl

pub sign_inside : (opens : Bool) (cs : List ℕ) → opens ≡ false → seen (front_of opens (35 ∷ cs)) ≡ Err LX1
unfolding front_of
sign_inside opens cs not_open = rw (not_open, sign_none cs) refl

pub word_seen : (c : ℕ) (cs : List ℕ) → is_letter c ≡ true → seen (token_front (c ∷ cs) (longest (c ∷ cs))) ≡ Ok (Some Word, prefix_len is_word_byte cs + 1)
unfolding kind_of
word_seen c cs first = rw (word_longest c cs first, first) (ap (λ n. Ok (Some Word, n)) (suc-eq-add-one (prefix_len is_word_byte cs)))

run_kind : (c : ℕ) (cs : List ℕ) → is_letter c ≡ false → is_digit c ≡ true → seen (token_front (c ∷ cs) (longest (c ∷ cs))) ≡ seen (of_kind (prefix_len is_run_byte cs + 1) (number_of (take (prefix_len is_run_byte cs + 1) (c ∷ cs))))
unfolding kind_of
run_kind c cs not_letter first = rw (← suc-eq-add-one (prefix_len is_run_byte cs), run_longest c cs not_letter first, not_letter, first) refl

pub number_seen : (c : ℕ) (cs : List ℕ) (kind : TokenKind) → is_letter c ≡ false → is_digit c ≡ true → Some kind ≡ number_of (take (prefix_len is_run_byte cs + 1) (c ∷ cs)) → seen (token_front (c ∷ cs) (longest (c ∷ cs))) ≡ Ok (Some kind, prefix_len is_run_byte cs + 1)
number_seen c cs kind not_letter first is = run_kind c cs not_letter first ∙ ap (λ o. seen (of_kind (prefix_len is_run_byte cs + 1) o)) (sym is)

pub number_refused : (c : ℕ) (cs : List ℕ) → is_letter c ≡ false → is_digit c ≡ true → None ≡ number_of (take (prefix_len is_run_byte cs + 1) (c ∷ cs)) → seen (token_front (c ∷ cs) (longest (c ∷ cs))) ≡ Err LX3
number_refused c cs not_letter first is = run_kind c cs not_letter first ∙ ap (λ o. seen (of_kind (prefix_len is_run_byte cs + 1) o)) (sym is)

pub text_seen : (cs : List ℕ) → prefix_len is_text_byte cs < length cs → get_or cs (prefix_len is_text_byte cs) 0 ≡ 34 → seen (token_front (34 ∷ cs) (longest (34 ∷ cs))) ≡ Ok (Some Text, prefix_len is_text_byte cs + 2)
unfolding kind_of
text_seen cs within here = rw (text_longest cs within here) (ap (λ n. Ok (Some Text, n)) (omega arith))

pub text_refused : (cs : List ℕ) → get_or cs (prefix_len is_text_byte cs) 0 ≢ 34 → seen (token_front (34 ∷ cs) (longest (34 ∷ cs))) ≡ Err LX5
text_refused cs open_end = rw (text_none cs open_end) refl

pub text_cut : (cs : List ℕ) → prefix_len is_text_byte cs ≡ length cs → seen (token_front (34 ∷ cs) (longest (34 ∷ cs))) ≡ Err LX5
text_cut cs cut = rw (text_cut_none cs cut) refl

by_length : (c : ℕ) (cs : List ℕ) (n : ℕ) → is_letter c ≡ false → is_digit c ≡ false → (c == 34) ≡ false → 0 < n → seen (token_front (c ∷ cs) n) ≡ Ok (Some Punct, n)
unfolding kind_of
by_length c cs zero l d q some = absurd (omega arith)
by_length c cs (suc n) l d q some = rw (l, d, q) refl

pub punct_seen : (c : ℕ) (cs : List ℕ) → is_letter c ≡ false → is_digit c ≡ false → (c == 34) ≡ false → longest (c ∷ cs) ≢ 0 → seen (token_front (c ∷ cs) (longest (c ∷ cs))) ≡ Ok (Some Punct, longest (c ∷ cs))
punct_seen c cs l d q some = by_length c cs (longest (c ∷ cs)) l d q (omega arith)

pub punct_refused : (c : ℕ) (cs : List ℕ) → (c == 34) ≡ false → longest (c ∷ cs) ≡ 0 → seen (token_front (c ∷ cs) (longest (c ∷ cs))) ≡ Err LX1
punct_refused c cs q none = rw (none, q) refl
