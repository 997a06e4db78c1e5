-- One piece of a text, and then what the rest after it is.
use Rattle.std.proofs.Common.{◌≡◌, ℕ, zero, suc, ◌+◌, ◌-◌, List, [], ◌∷◌, ◌++◌, length, take, drop, Ok, Err, refl, sym, ap, ◌∙◌}
use Rattle.std.proofs.Common.{append_assoc, length-append, arith}
use Rattle.std.proofs.lemmas.List.{take_at, drop_at}
use Rattle.tsa_base.specs.declared.token.LexCode.{LexCode}
use Rattle.tsa_base.specs.Tokens.{PieceKind, Piece, front_of, opens_line, pieces_at, begun, after}

-- the piece of these bytes after those before it
abbrev pub standing : List ℕ → PieceKind → List ℕ → Piece
standing before kind text = record { kind = kind; text = text; span = record { from = length before; to = length before + length text } }

-- what the piece before covers is passed over
covered : (text : List ℕ) (at n : ℕ) (cs : List ℕ) → pieces_at text at n cs ≡ pieces_at text (at + n) 0 (drop n cs)
unfolding pieces_at
covered text at zero cs = let same : at ≡ at + 0 = omega arith in ap (λ z. pieces_at text z 0 cs) same
covered text at (suc n) [] = refl
covered text at (suc n) (c ∷ cs) = let same : at + 1 + n ≡ at + suc n = omega arith in covered text (at + 1) n cs ∙ ap (λ z. pieces_at text z 0 (drop n cs)) same

pub pieces-begin : (before : List ℕ) (c : ℕ) (cs : List ℕ) → pieces_at (before ++ c ∷ cs) (length before) 0 (c ∷ cs) ≡ begun (length before) (c ∷ cs) (front_of (opens_line before) (c ∷ cs)) (λ n. pieces_at (before ++ c ∷ cs) (length before + 1) (n - 1) cs)
unfolding pieces_at
pieces-begin before c cs =
    let taken : take (length before) (before ++ c ∷ cs) ≡ before = take_at before (c ∷ cs) (length before) refl in
    rw taken refl

behind-piece : (before : List ℕ) (t : ℕ) (ts behind : List ℕ) → pieces_at (before ++ (t ∷ ts ++ behind)) (length before + 1) (suc (length ts) - 1) (ts ++ behind) ≡ pieces_at ((before ++ t ∷ ts) ++ behind) (length (before ++ t ∷ ts)) 0 behind
behind-piece before t ts behind =
    let whole : before ++ (t ∷ ts ++ behind) ≡ (before ++ t ∷ ts) ++ behind = sym (append_assoc before (t ∷ ts) behind) in
    let fewer : suc (length ts) - 1 ≡ length ts = omega arith in
    let place : length before + 1 + length ts ≡ length (before ++ t ∷ ts) = rw length-append (omega arith) in
    let left : drop (length ts) (ts ++ behind) ≡ behind = drop_at ts behind (length ts) refl in
    rw (whole, fewer, covered ((before ++ t ∷ ts) ++ behind) (length before + 1) (length ts) (ts ++ behind), place, left) refl

-- where the front is a piece, the pieces are it and those of the rest after it
pub pieces-step : (before : List ℕ) (kind : PieceKind) (t : ℕ) (ts behind : List ℕ) → front_of (opens_line before) (t ∷ ts ++ behind) ≡ Ok (kind, suc (length ts)) → pieces_at (before ++ (t ∷ ts ++ behind)) (length before) 0 (t ∷ ts ++ behind) ≡ after (standing before kind (t ∷ ts)) (pieces_at ((before ++ t ∷ ts) ++ behind) (length (before ++ t ∷ ts)) 0 behind)
pieces-step before kind t ts behind front =
    let taken : take (length ts) (ts ++ behind) ≡ ts = take_at ts behind (length ts) refl in
    rw (pieces-begin before t (ts ++ behind), front, taken, behind-piece before t ts behind) refl

pub pieces-bad : (before : List ℕ) (c : ℕ) (cs : List ℕ) (code : LexCode) → front_of (opens_line before) (c ∷ cs) ≡ Err code → pieces_at (before ++ c ∷ cs) (length before) 0 (c ∷ cs) ≡ Err (record { code = code; byte = length before })
pieces-bad before c cs code front = rw (pieces-begin before c cs, front) refl
