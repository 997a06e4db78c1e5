-- Quick tokens are those of the text.
use Rattle.std.proofs.Common.{◌≡◌, ◌≢◌, ℕ, zero, suc, ◌+◌, ◌-◌, ◌<◌, Bool, true, false, ◌==◌, List, [], ◌∷◌, length, take, get_or, Ok, Err}
use Rattle.std.proofs.Common.{refl, sym, ap, subst, ◌∙◌, arith}
use Rattle.std.proofs.lemmas.Bool.Decides.{nat_tests}
use Rattle.std.specs.List.{prefix_len}
use Rattle.std.specs.declared.result.Result.{Result}
use Rattle.tsa_base.specs.declared.token.LexCode.{LexCode}
use Rattle.tsa_base.specs.Bytes.{is_letter, is_digit, is_text_byte}
use Rattle.tsa_base.specs.Tokens.{BadByte, Piece, PieceKind, opens_line, begun, after, front_of, longest, pieces_at, tokens_among}
use Rattle.tsa_lex.specs.Puncts.{is_single, begins_pair, begins_triple}
use Rattle.tsa_lex.proofs.Fronts.{word_longest, run_longest, text_longest, text_none}
use Rattle.tsa_lex.proofs.PunctLemmas.{triple_longest, pair_longest, single_longest, no_punct}
use Rattle.tsa_lex.specs.Quick.{quoted_len, front_len, quick_longest, front_with, quick_pieces_at, QuickTokensAreTokens}

-- what stands at a place past the end is no quote
inside : (cs : List ℕ) (n : ℕ) → get_or cs n 0 ≡ 34 → n < length cs
inside [] n quote = absurd (omega arith)
inside (c ∷ cs) zero quote = omega arith
inside (c ∷ cs) (suc n) quote = omega (arith, inside cs n quote)

quoted : (cs : List ℕ) (b : Bool) → (get_or cs (prefix_len is_text_byte cs) 0 == 34) ≡ b → quoted_len b cs ≡ longest (34 ∷ cs)
quoted cs true is =
    let quote : get_or cs (prefix_len is_text_byte cs) 0 ≡ 34 = grind (arith, nat_tests) in
    sym (text_longest cs (inside cs (prefix_len is_text_byte cs) quote) quote)
quoted cs false is =
    let none : get_or cs (prefix_len is_text_byte cs) 0 ≢ 34 = grind (arith, nat_tests) in
    sym (text_none cs none)

quoted_at : (c : ℕ) (cs : List ℕ) → c ≡ 34 → quoted_len (get_or cs (prefix_len is_text_byte cs) 0 == 34) cs ≡ longest (c ∷ cs)
quoted_at c cs is = subst (λ x. quoted_len (get_or cs (prefix_len is_text_byte cs) 0 == 34) cs ≡ longest (x ∷ cs)) (sym is) (quoted cs (get_or cs (prefix_len is_text_byte cs) 0 == 34) refl)

by_first : (c : ℕ) (cs : List ℕ) (letter digit quote three two one : Bool) → is_letter c ≡ letter → is_digit c ≡ digit → (c == 34) ≡ quote
    → begins_triple c cs ≡ three → begins_pair c cs ≡ two → is_single c ≡ one → front_len letter digit quote three two one cs ≡ longest (c ∷ cs)
by_first c cs true digit quote three two one el ed eq e3 e2 e1 = sym (word_longest c cs el)
by_first c cs false true quote three two one el ed eq e3 e2 e1 = sym (run_longest c cs el ed)
by_first c cs false false true three two one el ed eq e3 e2 e1 = quoted_at c cs (grind (arith, nat_tests))
by_first c cs false false false true two one el ed eq e3 e2 e1 = sym (triple_longest c cs el ed eq e3)
by_first c cs false false false false true one el ed eq e3 e2 e1 = sym (pair_longest c cs el ed eq e3 e2)
by_first c cs false false false false false true el ed eq e3 e2 e1 = sym (single_longest c cs el ed eq e3 e2 e1)
by_first c cs false false false false false false el ed eq e3 e2 e1 = sym (no_punct c cs el ed eq e3 e2 e1)

longest_is : (c : ℕ) (cs : List ℕ) → quick_longest (c ∷ cs) ≡ longest (c ∷ cs)
unfolding quick_longest
longest_is c cs = by_first c cs (is_letter c) (is_digit c) (c == 34) (begins_triple c cs) (begins_pair c cs) (is_single c) refl refl refl refl refl refl

front_is : (opens : Bool) (c : ℕ) (cs : List ℕ) → front_with opens (c ∷ cs) (longest (c ∷ cs)) ≡ front_of opens (c ∷ cs)
unfolding front_with front_of
front_is opens c [] = refl
front_is opens c (d ∷ ds) = refl

begun_same : (at : ℕ) (whole : List ℕ) (front : Result (PieceKind × ℕ) LexCode) (f g : ℕ → Result (List Piece) BadByte) → ((n : ℕ) → f n ≡ g n) → begun at whole front f ≡ begun at whole front g
begun_same at whole (Err code) f g same = refl
begun_same at whole (Ok (kind, n)) f g same = ap (after (record { kind = kind; text = take n whole; span = record { from = at; to = at + n } })) (same n)

pieces_are : (text : List ℕ) (at covered : ℕ) (rest : List ℕ) → quick_pieces_at text at covered rest ≡ pieces_at text at covered rest
unfolding quick_pieces_at pieces_at
pieces_are text at covered [] = refl
pieces_are text at (suc covered) (c ∷ cs) = pieces_are text (at + 1) covered cs
pieces_are text at zero (c ∷ cs) =
    ap (λ n. begun at (c ∷ cs) (front_with (opens_line (take at text)) (c ∷ cs) n) (λ n. quick_pieces_at text (at + 1) (n - 1) cs)) (longest_is c cs)
    ∙ (ap (λ front. begun at (c ∷ cs) front (λ n. quick_pieces_at text (at + 1) (n - 1) cs)) (front_is (opens_line (take at text)) c cs)
    ∙ begun_same at (c ∷ cs) (front_of (opens_line (take at text)) (c ∷ cs)) (λ n. quick_pieces_at text (at + 1) (n - 1) cs) (λ n. pieces_at text (at + 1) (n - 1) cs) (λ n. pieces_are text (at + 1) (n - 1) cs))

pub tokens_are : QuickTokensAreTokens
tokens_are text = ap tokens_among (pieces_are text 0 zero text)
