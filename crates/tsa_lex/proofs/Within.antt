-- What a text begins with has some bytes, and is within the text.
use Rattle.std.proofs.Common.{◌≡◌, ℕ, zero, suc, ◌<◌, ◌≤◌, Bool, true, false, ◌&&◌, ◌==◌, List, [], ◌∷◌, length, take, Option, None, Some}
use Rattle.std.proofs.Common.{Result, Ok, Err, refl, arith, cond}
use Rattle.std.proofs.lemmas.Bool.Decides.{nat_tests}
use Rattle.std.proofs.lemmas.List.Sums.{prefix_len-le-length}
use Rattle.std.specs.Prelude.{IfOk}
use Rattle.tsa_base.specs.declared.token.TokenKind.{TokenKind}
use Rattle.tsa_base.specs.declared.token.LexCode.{LexCode}
use Rattle.tsa_base.specs.declared.token.LexCode.TheVariants.{LX4}
use Rattle.tsa_base.specs.Bytes.{is_blank, is_line_byte}
use Rattle.tsa_base.specs.Tokens.{PieceKind, skipped_line, front_of, of_kind, token_front, slash_front, block_front, block_end, map_length}
use Rattle.tsa_base.specs.Tokens.{kind_of, line_len, line_word, is_skipped, longest}
use Rattle.tsa_lex.specs.Fronts.{seen}
use Rattle.tsa_lex.proofs.Longest.{longest-within}

abbrev Fit : Result (PieceKind × ℕ) LexCode → ℕ → Type 0
Fit (Ok (kind, n)) len = (0 < n) × (n ≤ len)
Fit (Err code) len = Unit {0}

kind_fit : (n len : ℕ) (o : Option TokenKind) → 0 < n → n ≤ len → Fit (of_kind n o) len
kind_fit n len None some within = tt
kind_fit n len (Some kind) some within = (some, within)

token_fit : (cs : List ℕ) (n : ℕ) → n ≤ length cs → Fit (token_front cs n) (length cs)
token_fit cs zero within = tt
token_fit cs (suc n) within = kind_fit (suc n) (length cs) (kind_of (take (suc n) cs)) (omega arith) within

IsWithin : Option ℕ → ℕ → Type 0
IsWithin None len = Unit {0}
IsWithin (Some n) len = n ≤ len

within_suc : (o : Option ℕ) (len : ℕ) → IsWithin o len → IsWithin (map_length suc o) (suc len)
unfolding IsWithin
within_suc None len within = tt
within_suc (Some n) len within = omega arith

within_two : (len : ℕ) → IsWithin (Some 2) (suc (suc len))
unfolding IsWithin
within_two len = omega arith

block_step : (c d : ℕ) (cs : List ℕ) (b : Bool) → ((c == 42) && (d == 47)) ≡ b → IsWithin (block_end (d ∷ cs)) (length (d ∷ cs)) → IsWithin (block_end (c ∷ d ∷ cs)) (length (c ∷ d ∷ cs))
unfolding block_end
block_step c d cs true e rest = rw e (within_two (length cs))
block_step c d cs false e rest = rw e (within_suc (block_end (d ∷ cs)) (length (d ∷ cs)) rest)

none_within : (len : ℕ) → IsWithin None len
unfolding IsWithin
none_within len = tt

block_within : (cs : List ℕ) → IsWithin (block_end cs) (length cs)
unfolding block_end
block_within [] = none_within 0
block_within (c ∷ []) = none_within 1
block_within (c ∷ d ∷ cs) = block_step c d cs ((c == 42) && (d == 47)) refl (block_within (d ∷ cs))

block_fit : (o : Option ℕ) (len : ℕ) → IsWithin o len → Fit (block_front o) (suc (suc len))
unfolding IsWithin
block_fit None len within = tt
block_fit (Some n) len within = (omega arith, omega arith)

line_some : (c : ℕ) (cs : List ℕ) → is_line_byte c ≡ true → 0 < line_len (c ∷ cs)
line_some c cs is = rw is (omega arith)

line_fit : (c : ℕ) (cs : List ℕ) → is_line_byte c ≡ true → (0 < line_len (c ∷ cs)) × (line_len (c ∷ cs) ≤ length (c ∷ cs))
line_fit c cs is = (line_some c cs is, prefix_len-le-length is_line_byte (c ∷ cs))

slash_fit : (c : ℕ) (cs : List ℕ) → (c == 47) ≡ true → Fit (slash_front (c ∷ cs) cs) (length (c ∷ cs))
slash_fit c [] e = token_fit (c ∷ []) (longest (c ∷ [])) (longest-within (c ∷ []))
slash_fit c (d ∷ ds) e = by_star (d == 42) refl
  where
    by_slash : (b : Bool) → (d == 42) ≡ false → (d == 47) ≡ b → Fit (slash_front (c ∷ d ∷ ds) (d ∷ ds)) (length (c ∷ d ∷ ds))
    by_slash true star slash = let byte : is_line_byte c ≡ true = grind (arith, nat_tests) in rw (star, slash) (line_fit c (d ∷ ds) byte)
    by_slash false star slash = rw (star, slash) (token_fit (c ∷ d ∷ ds) (longest (c ∷ d ∷ ds)) (longest-within (c ∷ d ∷ ds)))

    by_star : (b : Bool) → (d == 42) ≡ b → Fit (slash_front (c ∷ d ∷ ds) (d ∷ ds)) (length (c ∷ d ∷ ds))
    by_star true star = rw star (block_fit (block_end ds) (length ds) (block_within ds))
    by_star false star = by_slash (d == 47) star refl

sign_fit : (skipped : Bool) (c : ℕ) (cs : List ℕ) → is_line_byte c ≡ true → Fit (cond {A = Result (PieceKind × ℕ) LexCode} skipped (Ok (skipped_line, line_len (c ∷ cs))) (Err LX4)) (length (c ∷ cs))
sign_fit true c cs byte = line_fit c cs byte
sign_fit false c cs byte = tt

front_fit : (opens : Bool) (c : ℕ) (cs : List ℕ) → Fit (front_of opens (c ∷ cs)) (length (c ∷ cs))
unfolding front_of
front_fit opens c cs = by_blank (is_blank c) refl
  where
    by_sign : (b : Bool) → is_blank c ≡ false → (c == 47) ≡ false → ((c == 35) && opens) ≡ b → Fit (front_of opens (c ∷ cs)) (length (c ∷ cs))
    by_sign true blank slash sign = let byte : is_line_byte c ≡ true = sign_byte opens sign in rw (blank, slash, sign) (sign_fit (is_skipped (line_word cs)) c cs byte)
      where
        sign_byte : (o : Bool) → ((c == 35) && o) ≡ true → is_line_byte c ≡ true
        sign_byte true e = grind (arith, nat_tests)
        sign_byte false e = grind (arith, nat_tests)
    by_sign false blank slash sign = rw (blank, slash, sign) (token_fit (c ∷ cs) (longest (c ∷ cs)) (longest-within (c ∷ cs)))

    by_slash : (b : Bool) → is_blank c ≡ false → (c == 47) ≡ b → Fit (front_of opens (c ∷ cs)) (length (c ∷ cs))
    by_slash true blank slash = rw (blank, slash) (slash_fit c cs slash)
    by_slash false blank slash = by_sign ((c == 35) && opens) blank slash refl

    by_blank : (b : Bool) → is_blank c ≡ b → Fit (front_of opens (c ∷ cs)) (length (c ∷ cs))
    by_blank true blank = rw blank (omega arith, omega arith)
    by_blank false blank = by_slash (c == 47) blank refl

seen_fit : (r : Result (PieceKind × ℕ) LexCode) (len : ℕ) → Fit r len → IfOk (seen r) (λ f. (0 < f.1) × (f.1 ≤ len))
seen_fit (Ok (kind, n)) len fit = fit
seen_fit (Err code) len fit = tt

pub front_within : (opens : Bool) (cs : List ℕ) (r : Result (Option TokenKind × ℕ) LexCode) → 0 < length cs → r ≡ seen (front_of opens cs) → IfOk r (λ f. (0 < f.1) × (f.1 ≤ length cs))
front_within opens [] r some is = absurd (omega arith)
front_within opens (c ∷ cs) r some is = rw is (seen_fit (front_of opens (c ∷ cs)) (length (c ∷ cs)) (front_fit opens c cs))
