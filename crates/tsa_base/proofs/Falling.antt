-- A text falls into its pieces, or into pieces up to its first bad byte.
use Rattle.std.proofs.Common.{◌≡◌, ℕ, zero, suc, ◌<◌, ◌≤◌, List, [], ◌∷◌, ◌++◌, length, take, Result, Ok, Err, refl, sym, subst, ap, ◌∙◌}
use Rattle.std.proofs.Common.{append_assoc, length-append, arith}
use Rattle.std.proofs.lemmas.List.{take_at}
use Rattle.tsa_base.specs.declared.token.LexCode.{LexCode}
use Rattle.tsa_base.specs.Tokens.{PieceKind, Piece, BadByte, front_of, opens_line, pieces_at, pieces_of, after}
use Rattle.tsa_base.specs.PieceLaws.{IsPiece, IsBad, Falls, FallsUpTo}
use Rattle.tsa_base.proofs.PieceFronts.{piece-front, piece-some}
use Rattle.tsa_base.proofs.FrontPieces.{Judged, judged}
use Rattle.tsa_base.proofs.PieceSteps.{standing, pieces-step, pieces-bad}

-- a rest falls into pieces up to its first bad byte
record FallsFrom (before rest : List ℕ) (bad : BadByte) : Type 0 where
  pieces : List Piece
  up_to : List ℕ
  left : List ℕ
  falls : Falls before rest pieces left
  whole : before ++ rest ≡ up_to ++ left
  byte : bad.byte ≡ length up_to
  some : 0 < length left
  code : IsBad up_to bad.code left
  front : front_of (opens_line up_to) left ≡ Err bad.code

abbrev Fallen : (before rest : List ℕ) → Result (List Piece) BadByte → Type 0
Fallen before rest (Ok pieces) = Falls before rest pieces []
Fallen before rest (Err bad) = FallsFrom before rest bad

-- one more piece before those that a rest falls into
fallen-after : (before rest : List ℕ) (kind : PieceKind) (text behind : List ℕ) (r : Result (List Piece) BadByte) → rest ≡ text ++ behind → IsPiece before kind text behind → Fallen (before ++ text) behind r → Fallen before rest (after (standing before kind text) r)
unfolding Falls
fallen-after before rest kind text behind (Ok ps) whole is falls = (behind, record { whole = whole; span = refl; is = is }, falls)
fallen-after before rest kind text behind (Err bad) whole is falls = record {
  pieces = standing before kind text ∷ falls.pieces;
  up_to = falls.up_to;
  left = falls.left;
  falls = (behind, record { whole = whole; span = refl; is = is }, falls.falls);
  whole = ap (λ z. before ++ z) whole ∙ sym (append_assoc before text behind) ∙ falls.whole;
  byte = falls.byte;
  some = falls.some;
  code = falls.code;
  front = falls.front;
}

piece-fallen : (before : List ℕ) (kind : PieceKind) (text behind : List ℕ) → IsPiece before kind text behind → Fallen (before ++ text) behind (pieces_at ((before ++ text) ++ behind) (length (before ++ text)) 0 behind) → Fallen before (text ++ behind) (pieces_at (before ++ (text ++ behind)) (length before) 0 (text ++ behind))
piece-fallen before kind [] behind is later = let some : 0 < 0 = piece-some before kind [] behind is in absurd (omega arith)
piece-fallen before kind (t ∷ ts) behind is later =
    rw (pieces-step before kind t ts behind (piece-front before kind (t ∷ ts) behind is))
    (fallen-after before (t ∷ ts ++ behind) kind (t ∷ ts) behind _ refl is later)

fallen-step : (before : List ℕ) (c : ℕ) (cs : List ℕ) (r : Result (PieceKind × ℕ) LexCode) → front_of (opens_line before) (c ∷ cs) ≡ r → Judged before (c ∷ cs) r → ((text behind : List ℕ) → c ∷ cs ≡ text ++ behind → 0 < length text → Fallen (before ++ text) behind (pieces_at ((before ++ text) ++ behind) (length (before ++ text)) 0 behind)) → Fallen before (c ∷ cs) (pieces_at (before ++ c ∷ cs) (length before) 0 (c ∷ cs))
unfolding Falls
fallen-step before c cs (Ok (kind, n)) e front later =
    subst (λ (z : List ℕ). Fallen before z (pieces_at (before ++ z) (length before) 0 z)) (sym front.whole)
    (piece-fallen before kind front.piece front.behind front.is (later front.piece front.behind front.whole (piece-some before kind front.piece front.behind front.is)))
fallen-step before c cs (Err code) e bad later =
    rw (pieces-bad before c cs code e)
    (record { pieces = []; up_to = before; left = c ∷ cs; falls = refl; whole = refl; byte = refl; some = omega arith; code = bad; front = e })

fallen : (fuel : ℕ) (before rest : List ℕ) → length rest ≤ fuel → Fallen before rest (pieces_at (before ++ rest) (length before) 0 rest)
unfolding Falls pieces_at
fallen fuel before [] enough = refl
fallen zero before (c ∷ cs) enough = absurd (omega arith)
fallen (suc fuel) before (c ∷ cs) enough =
    fallen-step before c cs (front_of (opens_line before) (c ∷ cs)) refl (judged before c cs)
    (λ text behind whole some. fallen fuel (before ++ text) behind (omega (arith, simp length-append at (ap length whole))))

fallen-of : (text : List ℕ) (r : Result (List Piece) BadByte) → pieces_of text ≡ r → Fallen [] text r
fallen-of text r e = subst (λ (z : Result (List Piece) BadByte). Fallen [] text z) e (fallen (length text) [] text (omega arith))

pub whole : (text : List ℕ) (pieces : List Piece) → pieces_of text ≡ Ok pieces → Falls [] text pieces []
whole text pieces e = fallen-of text (Ok pieces) e

nothing-begins : (before left : List ℕ) (code : LexCode) (kind : PieceKind) (piece behind : List ℕ) → front_of (opens_line before) left ≡ Err code → left ≡ piece ++ behind → IsPiece before kind piece behind → ⊥
nothing-begins before left code kind piece behind front parts is =
    let begun : front_of (opens_line before) (piece ++ behind) ≡ Ok (kind, length piece) = piece-front before kind piece behind is in
    let bad : front_of (opens_line before) (piece ++ behind) ≡ Err code = rw parts at front in
    cc

pub up_to_bad : (text : List ℕ) (bad : BadByte) → pieces_of text ≡ Err bad → FallsUpTo text bad
up_to_bad text bad e =
    let f : FallsFrom [] text bad = fallen-of text (Err bad) e in
    let whole' : text ≡ f.up_to ++ f.left = f.whole in
    let byte' : bad.byte ≡ length f.up_to = f.byte in
    let taken : take bad.byte text ≡ f.up_to = ap (λ (z : List ℕ). take bad.byte z) whole' ∙ take_at f.up_to f.left bad.byte (sym byte') in
    record {
      pieces = f.pieces;
      left = f.left;
      falls = f.falls;
      byte = omega (arith, simp length-append at (ap length whole'));
      some = f.some;
      code = rw taken f.code;
      none = λ kind piece behind parts is. nothing-begins f.up_to f.left bad.code kind piece behind f.front parts (rw taken at is);
    }
