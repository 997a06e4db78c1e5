-- The tokens of a text stand in it one after the other, each with its bytes.
use Rattle.std.proofs.Common.{◌≡◌, ◌⊎◌, inl, inr, ℕ, ◌+◌, ◌-◌, ◌<◌, ◌≤◌, List, [], ◌∷◌, ◌++◌, length, take, drop, None, Some, Result, Ok}
use Rattle.std.proofs.Common.{Err, refl, sym, ap, ◌∙◌, append_assoc, length-append, arith}
use Rattle.std.proofs.lemmas.List.{take_at, drop_at}
use Rattle.std.specs.List.{filter_map}
use Rattle.tsa_base.specs.declared.token.Span.{Span}
use Rattle.tsa_base.specs.declared.token.TokenKind.{TokenKind}
use Rattle.tsa_base.specs.Tokens.{PieceKind, blank, comment, skipped_line, token, Piece, BadByte, Lexeme, lexeme_of, pieces_of, tokens_of}
use Rattle.tsa_base.specs.Tokens.{tokens_among}
use Rattle.tsa_base.specs.PieceLaws.{Falls, Stands, InOrder, TextsFallIntoPieces}
use Rattle.tsa_base.proofs.PieceFronts.{piece-some}
use Rattle.tsa_base.proofs.Falling.{whole, up_to_bad}
use Rattle.tsa_base.proofs.OneWay.{one_way, one_bad}

-- a piece gives no token, or one with its own bytes at its own place
Gives : Piece → Type 0
Gives p = (lexeme_of p ≡ None) ⊎ ((kind : TokenKind) × (lexeme_of p ≡ Some (record { kind = kind; text = p.text; span = p.span })))

gives-of : (kind : PieceKind) (text : List ℕ) (span : Span) → Gives (record { kind = kind; text = text; span = span })
unfolding Gives
gives-of blank text span = inl refl
gives-of comment text span = inl refl
gives-of skipped_line text span = inl refl
gives-of (token kind) text span = inr (kind, refl)

slice : (before text behind : List ℕ) → text ≡ take (length before + length text - length before) (drop (length before) (before ++ (text ++ behind)))
slice before text behind =
    let many : length before + length text - length before ≡ length text = omega arith in
    let left : drop (length before) (before ++ (text ++ behind)) ≡ text ++ behind = drop_at before (text ++ behind) (length before) refl in
    rw (many, left) (sym (take_at text behind (length text) refl))

order-step : (before rest behind : List ℕ) (from : ℕ) (p : Piece) (ps : List Piece) → Gives p → Stands before rest p behind → from ≤ length before → ((from : ℕ) → from ≤ length (before ++ p.text) → InOrder ((before ++ p.text) ++ behind) from (filter_map lexeme_of ps)) → InOrder (before ++ rest) from (filter_map lexeme_of (p ∷ ps))
unfolding InOrder Gives
order-step before rest behind from p ps (inl gap) stands within later =
    let same : before ++ rest ≡ (before ++ p.text) ++ behind = ap (λ z. before ++ z) stands.whole ∙ sym (append_assoc before p.text behind) in
    rw (same, gap) (later from (rw length-append (omega arith)))
order-step before rest behind from p ps (inr (kind, gives)) stands within later =
    let same : before ++ rest ≡ (before ++ p.text) ++ behind = ap (λ z. before ++ z) stands.whole ∙ sym (append_assoc before p.text behind) in
    let begins : p.span.from ≡ length before = ap (λ (s : Span). s.from) stands.span in
    let ends : p.span.to ≡ length before + length p.text = ap (λ (s : Span). s.to) stands.span in
    let some : 0 < length p.text = piece-some before p.kind p.text behind stands.is in
    let here : p.text ≡ take (p.span.to - p.span.from) (drop p.span.from (before ++ rest)) = rw (begins, ends, stands.whole) (slice before p.text behind) in
    let rest_in_order : InOrder (before ++ rest) p.span.to (filter_map lexeme_of ps) = rw same (later p.span.to (rw (ends, length-append) (omega arith))) in
    rw gives (omega arith, omega arith, here, rest_in_order)

in_order : (before rest : List ℕ) (from : ℕ) (ps : List Piece) → Falls before rest ps [] → from ≤ length before → InOrder (before ++ rest) from (filter_map lexeme_of ps)
unfolding Falls InOrder
in_order before rest from [] done within = rw length-append (omega arith)
in_order before rest from (p ∷ ps) (behind, stands, falls) within =
    order-step before rest behind from p ps (gives-of p.kind p.text p.span) stands within
    (λ next reached. in_order (before ++ p.text) behind next ps falls reached)

-- the tokens are those among the pieces
tokens-step : (text : List ℕ) (tokens : List Lexeme) (r : Result (List Piece) BadByte) → pieces_of text ≡ r → tokens_among r ≡ Ok tokens → (pieces : List Piece) × Falls [] text pieces [] × (tokens ≡ filter_map lexeme_of pieces)
tokens-step text tokens (Ok pieces) e among = (pieces, whole text pieces e, cc)
tokens-step text tokens (Err bad) e among = absurd (cc)

tokens : (text : List ℕ) (tokens : List Lexeme) → tokens_of text ≡ Ok tokens → (pieces : List Piece) × Falls [] text pieces [] × (tokens ≡ filter_map lexeme_of pieces)
tokens text ts e = tokens-step text ts (pieces_of text) refl e

order : (text : List ℕ) (tokens : List Lexeme) → tokens_of text ≡ Ok tokens → InOrder text 0 tokens
order text ts e =
    let among = tokens text ts e in
    rw among.2 (in_order [] text 0 among.0 among.1 (omega arith))

pub texts_fall_into_pieces : TextsFallIntoPieces
texts_fall_into_pieces = record { whole = whole; one_way = one_way; bad = up_to_bad; one_bad = one_bad; tokens = tokens; order = order }
