-- What one piece adds to the tokens of a text.
use Rattle.std.proofs.Common.{◌≡◌, ℕ, zero, suc, ◌+◌, ◌-◌, ◌<◌, ◌≤◌, List, [], ◌∷◌, ◌++◌, length, take, drop, get_or, Option, None, Some}
use Rattle.std.proofs.Common.{Result, Ok, Err, refl, sym, ap, ◌∙◌, append_assoc, drop-cons, add-one, arith}
use Rattle.std.proofs.lemmas.List.{drop-drop, take_rest, append-nil, drop_all}
use Rattle.std.specs.Option.{option_map_or}
use Rattle.tsa_base.specs.declared.token.TokenKind.{TokenKind}
use Rattle.tsa_base.specs.declared.token.LexCode.{LexCode}
use Rattle.tsa_base.specs.Tokens.{PieceKind, blank, comment, skipped_line, token, Piece, BadByte, Lexeme, lexeme_of, after, begun, front_of}
use Rattle.tsa_base.specs.Tokens.{opens_line, pieces_at, tokens_among, tokens_of}
use Rattle.tsa_lex.specs.Fronts.{seen}

abbrev pub joined : List Lexeme → Result (List Lexeme) BadByte → Result (List Lexeme) BadByte
joined front (Ok tokens) = Ok (front ++ tokens)
joined front (Err bad) = Err bad

abbrev pub lexeme_at : ℕ → List ℕ → TokenKind → ℕ → Lexeme
lexeme_at at cs kind n = record { kind = kind; text = take n cs; span = record { from = at; to = at + n } }

abbrev pub rest_tokens : List ℕ → ℕ → List ℕ → Result (List Lexeme) BadByte
rest_tokens text at cs = tokens_among (pieces_at text at zero cs)

-- One piece before the others.

gap_piece : (p : Piece) (r : Result (List Piece) BadByte) → lexeme_of p ≡ None → tokens_among (after p r) ≡ tokens_among r
gap_piece p (Ok ps) gap = rw gap refl
gap_piece p (Err bad) gap = refl

token_piece : (p : Piece) (l : Lexeme) (r : Result (List Piece) BadByte) → lexeme_of p ≡ Some l → tokens_among (after p r) ≡ joined (l ∷ []) (tokens_among r)
token_piece p l (Ok ps) is = rw is refl
token_piece p l (Err bad) is = refl

-- One front, and the rest after it.

bad_begun : (at : ℕ) (cs : List ℕ) (r : Result (PieceKind × ℕ) LexCode) (code : LexCode) (behind : ℕ → Result (List Piece) BadByte) → ◌≡◌ {A = Result (Option TokenKind × ℕ) LexCode} (seen r) (Err code) → tokens_among (begun at cs r behind) ≡ Err (record { code = code; byte = at })
bad_begun at cs (Ok (kind, n)) code behind e = cc
bad_begun at cs (Err x) code behind e = let same : x ≡ code = cc in ap (λ y. Err (record { code = y; byte = at })) same

same_front : (k o : Option TokenKind) (m n : ℕ) → ◌≡◌ {A = Result (Option TokenKind × ℕ) LexCode} (Ok (k, m)) (Ok (o, n)) → (k ≡ o) × (m ≡ n)
same_front k o m n e = let pair : ◌≡◌ {A = Option TokenKind × ℕ} (k, m) (o, n) = cc in (ap (λ p. p.0) pair, ap (λ p. p.1) pair)

gap_begun : (at : ℕ) (cs : List ℕ) (r : Result (PieceKind × ℕ) LexCode) (n : ℕ) (behind : ℕ → Result (List Piece) BadByte) → seen r ≡ Ok (None, n) → tokens_among (begun at cs r behind) ≡ tokens_among (behind n)
gap_begun at cs (Err x) n behind e = cc
gap_begun at cs (Ok (blank, m)) n behind e = gap_piece _ (behind m) refl ∙ ap (λ k. tokens_among (behind k)) (same_front None None m n e).1
gap_begun at cs (Ok (comment, m)) n behind e = gap_piece _ (behind m) refl ∙ ap (λ k. tokens_among (behind k)) (same_front None None m n e).1
gap_begun at cs (Ok (skipped_line, m)) n behind e = gap_piece _ (behind m) refl ∙ ap (λ k. tokens_among (behind k)) (same_front None None m n e).1
gap_begun at cs (Ok (token kind, m)) n behind e = let wrong : Some kind ≡ None = (same_front (Some kind) None m n e).0 in cc

token_begun : (at : ℕ) (cs : List ℕ) (r : Result (PieceKind × ℕ) LexCode) (kind : TokenKind) (n : ℕ) (behind : ℕ → Result (List Piece) BadByte) → seen r ≡ Ok (Some kind, n) → tokens_among (begun at cs r behind) ≡ joined (lexeme_at at cs kind n ∷ []) (tokens_among (behind n))
token_begun at cs (Err x) kind n behind e = cc
token_begun at cs (Ok (blank, m)) kind n behind e = let wrong : None ≡ Some kind = (same_front None (Some kind) m n e).0 in cc
token_begun at cs (Ok (comment, m)) kind n behind e = let wrong : None ≡ Some kind = (same_front None (Some kind) m n e).0 in cc
token_begun at cs (Ok (skipped_line, m)) kind n behind e = let wrong : None ≡ Some kind = (same_front None (Some kind) m n e).0 in cc
token_begun at cs (Ok (token k, m)) kind n behind e =
    let parts = same_front (Some k) (Some kind) m n e in
    let kinds : k ≡ kind = ap (λ o. option_map_or (λ x. x) o k) parts.0 in
    token_piece _ (lexeme_at at cs k m) (behind m) refl ∙ ap (λ x. joined (lexeme_at at cs x m ∷ []) (tokens_among (behind m))) kinds ∙ ap (λ x. joined (lexeme_at at cs kind x ∷ []) (tokens_among (behind x))) parts.1

-- The rest at a place of a text.

pieces_covered : (text : List ℕ) (at n : ℕ) (cs : List ℕ) → pieces_at text at n cs ≡ pieces_at text (at + n) zero (drop n cs)
unfolding pieces_at
pieces_covered text at zero cs = ap (λ a. pieces_at text a zero cs) (omega arith)
pieces_covered text at (suc n) [] = refl
pieces_covered text at (suc n) (c ∷ cs) = pieces_covered text (at + 1) n cs ∙ ap (λ a. pieces_at text a zero (drop n cs)) (omega arith)

behind_first : (text : List ℕ) (at n c : ℕ) (cs : List ℕ) → 0 < n → pieces_at text (at + 1) (n - 1) cs ≡ pieces_at text (at + n) zero (drop n (c ∷ cs))
behind_first text at zero c cs some = absurd (omega arith)
behind_first text at (suc n) c cs some = ap (λ m. pieces_at text (at + 1) m cs) (omega arith) ∙ pieces_covered text (at + 1) n cs ∙ ap (λ a. pieces_at text a zero (drop n cs)) (omega arith)

bad_step : (text : List ℕ) (at c : ℕ) (cs : List ℕ) (code : LexCode) → seen (front_of (opens_line (take at text)) (c ∷ cs)) ≡ Err code → rest_tokens text at (c ∷ cs) ≡ Err (record { code = code; byte = at })
unfolding pieces_at
bad_step text at c cs code is = bad_begun at (c ∷ cs) (front_of (opens_line (take at text)) (c ∷ cs)) code _ is

gap_step : (text : List ℕ) (at c : ℕ) (cs : List ℕ) (n : ℕ) → seen (front_of (opens_line (take at text)) (c ∷ cs)) ≡ Ok (None, n) → 0 < n → rest_tokens text at (c ∷ cs) ≡ rest_tokens text (at + n) (drop n (c ∷ cs))
unfolding pieces_at
gap_step text at c cs n is some = gap_begun at (c ∷ cs) (front_of (opens_line (take at text)) (c ∷ cs)) n (λ m. pieces_at text (at + 1) (m - 1) cs) is ∙ ap tokens_among (behind_first text at n c cs some)

token_step : (text : List ℕ) (at c : ℕ) (cs : List ℕ) (kind : TokenKind) (n : ℕ) → seen (front_of (opens_line (take at text)) (c ∷ cs)) ≡ Ok (Some kind, n) → 0 < n →
    rest_tokens text at (c ∷ cs) ≡ joined (lexeme_at at (c ∷ cs) kind n ∷ []) (rest_tokens text (at + n) (drop n (c ∷ cs)))
unfolding pieces_at
token_step text at c cs kind n is some = token_begun at (c ∷ cs) (front_of (opens_line (take at text)) (c ∷ cs)) kind n (λ m. pieces_at text (at + 1) (m - 1) cs) is ∙ ap (λ r. joined (lexeme_at at (c ∷ cs) kind n ∷ []) (tokens_among r)) (behind_first text at n c cs some)

-- The same with the tokens so far.

rest_at : (text : List ℕ) (at : ℕ) → at < length text → drop at text ≡ get_or text at 0 ∷ drop (at + 1) text
rest_at text at within = rw add-one (drop-cons text at 0 within)

joined_none : (r : Result (List Lexeme) BadByte) → r ≡ joined [] r
joined_none (Ok r) = refl
joined_none (Err bad) = refl

joined_more : (a b : List Lexeme) (r : Result (List Lexeme) BadByte) → joined a (joined b r) ≡ joined (a ++ b) r
joined_more a b (Ok r) = ap Ok (sym (append_assoc a b r))
joined_more a b (Err bad) = refl

-- the tokens of a text are these, and then those of the rest
abbrev pub ReadTo : List ℕ → ℕ → List Lexeme → Type 0
ReadTo text at front = tokens_of text ≡ joined front (rest_tokens text at (drop at text))

abbrev pub front_at : List ℕ → ℕ → Result (Option TokenKind × ℕ) LexCode
front_at text at = seen (front_of (opens_line (take at text)) (take (length text - at) (drop at text)))

here_is : (text : List ℕ) (at : ℕ) (r : Result (Option TokenKind × ℕ) LexCode) → at < length text → front_at text at ≡ r → seen (front_of (opens_line (take at text)) (get_or text at 0 ∷ drop (at + 1) text)) ≡ r
here_is text at r within is = ap (λ cs. seen (front_of (opens_line (take at text)) cs)) (sym (take_rest text at ∙ rest_at text at within)) ∙ is

pub begins : (text : List ℕ) → ReadTo text 0 []
begins text = joined_none (tokens_of text)

pub goes_past : (text : List ℕ) (at : ℕ) (front : List Lexeme) (n : ℕ) → ReadTo text at front → at < length text → front_at text at ≡ Ok (None, n) → 0 < n → ReadTo text (at + n) front
goes_past text at front n read within is some =
    let whole = rest_at text at within in
    read ∙ ap (joined front) (ap (rest_tokens text at) whole ∙ gap_step text at (get_or text at 0) (drop (at + 1) text) n (here_is text at (Ok (None, n)) within is) some ∙ ap (λ cs. rest_tokens text (at + n) (drop n cs)) (sym whole) ∙ ap (rest_tokens text (at + n)) (drop-drop n at text))

pub goes_on : (text : List ℕ) (at : ℕ) (front : List Lexeme) (kind : TokenKind) (n : ℕ) → ReadTo text at front → at < length text → front_at text at ≡ Ok (Some kind, n) → 0 < n → ReadTo text (at + n) (front ++ lexeme_at at (drop at text) kind n ∷ [])
goes_on text at front kind n read within is some =
    let whole = rest_at text at within in
    let step : rest_tokens text at (drop at text) ≡ joined (lexeme_at at (drop at text) kind n ∷ []) (rest_tokens text (at + n) (drop (at + n) text)) =
    ap (rest_tokens text at) whole ∙ token_step text at (get_or text at 0) (drop (at + 1) text) kind n (here_is text at (Ok (Some kind, n)) within is) some ∙ ap (λ cs. joined (lexeme_at at cs kind n ∷ []) (rest_tokens text (at + n) (drop n cs))) (sym whole) ∙ ap (λ cs. joined (lexeme_at at (drop at text) kind n ∷ []) (rest_tokens text (at + n) cs)) (drop-drop n at text) in
    read ∙ ap (joined front) step ∙ joined_more front (lexeme_at at (drop at text) kind n ∷ []) (rest_tokens text (at + n) (drop (at + n) text))

pub stops : (text : List ℕ) (at : ℕ) (front : List Lexeme) (code : LexCode) → ReadTo text at front → at < length text → front_at text at ≡ Err code → tokens_of text ≡ Err (record { code = code; byte = at })
stops text at front code read within is = read ∙ ap (joined front) (ap (rest_tokens text at) (rest_at text at within) ∙ bad_step text at (get_or text at 0) (drop (at + 1) text) code (here_is text at (Err code) within is))

pub ends : (text : List ℕ) (at : ℕ) (front : List Lexeme) → ReadTo text at front → length text ≤ at → tokens_of text ≡ Ok front
unfolding pieces_at
ends text at front read over =
    let nothing : drop at text ≡ [] = drop_all at text over in
    read ∙ ap (λ cs. joined front (rest_tokens text at cs)) nothing ∙ ap Ok (append-nil front)
