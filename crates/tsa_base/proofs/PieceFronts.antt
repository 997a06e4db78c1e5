-- Where a piece begins a rest, it is the front that is computed.
use Rattle.std.proofs.Common.{◌≡◌, inl, inr, ℕ, suc, ◌+◌, ◌<◌, Bool, true, false, ◌==◌, ◌&&◌, ◌||◌, List, [], ◌∷◌, ◌++◌, length, take, Some}
use Rattle.std.proofs.Common.{Ok, refl, ap, append_assoc, length-append, arith}
use Rattle.std.proofs.lemmas.Bool.{and_left, or_parts}
use Rattle.std.proofs.lemmas.List.{take_at}
use Rattle.tsa_base.specs.declared.token.TokenKind.{TokenKind}
use Rattle.tsa_base.specs.Bytes.{is_blank}
use Rattle.tsa_base.specs.Tokens.{PieceKind, blank, comment, skipped_line, token, front_of, slash_front, token_front, kind_of, is_token}
use Rattle.tsa_base.specs.Tokens.{longest, opens_line, line_len}
use Rattle.tsa_base.specs.PieceLaws.{IsPiece, IsBlank, IsBlock, IsLineComment, IsDirective, IsNextToken, begins_comment}
use Rattle.tsa_base.proofs.LongestFronts.{next-longest, token-begins}
use Rattle.tsa_base.proofs.LineEnds.{reaches-length, line_word-append}
use Rattle.tsa_base.proofs.BlockEnds.{end_found}

slash-token : (c : ℕ) (ds : List ℕ) → (c == 47) ≡ true → begins_comment (c ∷ ds) ≡ false → slash_front (c ∷ ds) ds ≡ token_front (c ∷ ds) (longest (c ∷ ds))
slash-token c [] slash apart = refl
slash-token c (d ∷ ds) slash apart =
    let others : ((d == 42) || (d == 47)) ≡ false = rw slash at apart in
    let parts = or_parts (d == 42) (d == 47) others in
    let star : (d == 42) ≡ false = parts.0 in
    let slashes : (d == 47) ≡ false = parts.1 in
    rw (star, slashes) refl

token-front-step : (opens : Bool) (c : ℕ) (ds : List ℕ) (b : Bool) → (c == 47) ≡ b → is_blank c ≡ false → ((c == 35) && opens) ≡ false → begins_comment (c ∷ ds) ≡ false → front_of opens (c ∷ ds) ≡ token_front (c ∷ ds) (longest (c ∷ ds))
unfolding front_of
token-front-step opens c ds true e dark inside apart = rw (dark, e) (slash-token c ds e apart)
token-front-step opens c ds false e dark inside apart = rw (dark, e, inside) refl

-- what begins with no blank, no preprocessing line and no comment has a token for its front, or none
pub token-front : (opens : Bool) (c : ℕ) (ds : List ℕ) → is_blank c ≡ false → ((c == 35) && opens) ≡ false → begins_comment (c ∷ ds) ≡ false → front_of opens (c ∷ ds) ≡ token_front (c ∷ ds) (longest (c ∷ ds))
token-front opens c ds dark inside apart = token-front-step opens c ds (c == 47) refl dark inside apart

blank-front : (opens : Bool) (text behind : List ℕ) → IsBlank text → front_of opens (text ++ behind) ≡ Ok (blank, length text)
unfolding front_of
blank-front opens text behind p = rw (p.alone, p.white) refl

block-front : (opens : Bool) (text behind : List ℕ) → IsBlock text → front_of opens (text ++ behind) ≡ Ok (comment, length text)
unfolding front_of
block-front opens text behind p =
    let many : length p.inner + 2 + 2 ≡ suc (suc (length (p.inner ++ 42 ∷ 47 ∷ []))) = rw length-append (omega arith) in
    rw (p.whole, append_assoc p.inner (42 ∷ 47 ∷ []) behind, end_found p.inner behind p.first) (ap (λ n. Ok (comment, n)) many)

line-front : (opens : Bool) (text behind : List ℕ) → IsLineComment text behind → front_of opens (text ++ behind) ≡ Ok (comment, length text)
unfolding front_of
line-front opens text behind p =
    let many : line_len (text ++ behind) ≡ length text = reaches-length text behind p.to_end in
    let many' : line_len (47 ∷ 47 ∷ p.inner ++ behind) ≡ length (47 ∷ 47 ∷ p.inner) = rw p.whole at many in
    rw p.whole (ap (λ n. Ok (comment, n)) many')

directive-front : (before text behind : List ℕ) → IsDirective true before text behind → front_of (opens_line before) (text ++ behind) ≡ Ok (skipped_line, length text)
unfolding front_of
directive-front before text behind p =
    let many : line_len (text ++ behind) ≡ length text = reaches-length text behind p.to_end in
    let many' : line_len (35 ∷ p.line ++ behind) ≡ length (35 ∷ p.line) = rw p.whole at many in
    rw (p.whole, p.opens, line_word-append p.line behind p.to_end.ends, p.word) (ap (λ n. Ok (skipped_line, n)) many')

next-front : (opens : Bool) (kind : TokenKind) (text behind : List ℕ) → IsNextToken kind text behind → front_of opens (text ++ behind) ≡ Ok (token kind, length text)
unfolding is_token
next-front opens kind [] behind p = let is : false ≡ true = p.next.is in cc
next-front opens kind (c ∷ cs) behind p =
    let first = token-begins c cs p.next.is in
    let reached : longest (c ∷ cs ++ behind) ≡ suc (length cs) = next-longest (c ∷ cs) behind p.next in
    let taken : take (length cs) (cs ++ behind) ≡ cs = take_at cs behind (length cs) refl in
    let kind' : kind_of (c ∷ cs) ≡ Some kind = p.of_kind in
    let front : front_of opens (c ∷ cs ++ behind) ≡ token_front (c ∷ cs ++ behind) (longest (c ∷ cs ++ behind)) = token-front opens c (cs ++ behind) first.0 (and_left (c == 35) opens first.1) p.next.no_comment in
    rw (front, reached, taken, kind') refl

-- a piece is the front of what it begins
pub piece-front : (before : List ℕ) (kind : PieceKind) (text behind : List ℕ) → IsPiece before kind text behind → front_of (opens_line before) (text ++ behind) ≡ Ok (kind, length text)
unfolding IsPiece
piece-front before blank text behind p = blank-front (opens_line before) text behind p
piece-front before comment text behind (inl p) = block-front (opens_line before) text behind p
piece-front before comment text behind (inr p) = line-front (opens_line before) text behind p
piece-front before skipped_line text behind p = directive-front before text behind p
piece-front before (token kind) text behind p = next-front (opens_line before) kind text behind p

-- a piece has bytes
pub piece-some : (before : List ℕ) (kind : PieceKind) (text behind : List ℕ) → IsPiece before kind text behind → 0 < length text
unfolding IsPiece is_token
piece-some before blank text behind p = rw p.alone (omega arith)
piece-some before comment text behind (inl p) = rw p.whole (omega arith)
piece-some before comment text behind (inr p) = rw p.whole (omega arith)
piece-some before skipped_line text behind p = rw p.whole (omega arith)
piece-some before (token kind) [] behind p = let is : false ≡ true = p.next.is in cc
piece-some before (token kind) (c ∷ cs) behind p = omega arith
