-- A text falls into pieces, or into pieces up to a bad byte, in one way only.
use Rattle.std.proofs.Common.{◌≡◌, ℕ, ◌<◌, List, [], ◌∷◌, ◌++◌, length, take, Result, Ok, Err, refl, sym, ap, ◌∙◌, append_assoc}
use Rattle.std.proofs.Common.{length-append, arith}
use Rattle.std.proofs.lemmas.List.{take_at, append-nil, append_cancel_right}
use Rattle.tsa_base.specs.declared.token.Span.{Span}
use Rattle.tsa_base.specs.declared.token.LexCode.{LexCode}
use Rattle.tsa_base.specs.Tokens.{PieceKind, Piece, BadByte, pieces_at, pieces_of, after}
use Rattle.tsa_base.specs.PieceLaws.{IsPiece, IsBad, Falls, Stands, FallsUpTo}
use Rattle.tsa_base.proofs.PieceFronts.{piece-front, piece-some}
use Rattle.tsa_base.proofs.BadFronts.{bad-front}
use Rattle.tsa_base.proofs.PieceSteps.{standing, pieces-step, pieces-bad}

abbrev piece_of : PieceKind → List ℕ → Span → Piece
piece_of kind text span = record { kind = kind; text = text; span = span }

-- pieces before what the rest after them is
abbrev after_all : List Piece → Result (List Piece) BadByte → Result (List Piece) BadByte
after_all [] r = r
after_all (p ∷ ps) r = after p (after_all ps r)

only-step : (before : List ℕ) (p : Piece) (text behind : List ℕ) (r : Result (List Piece) BadByte) → p.text ≡ text → Stands before (text ++ behind) p behind → pieces_at ((before ++ text) ++ behind) (length (before ++ text)) 0 behind ≡ r → pieces_at (before ++ (text ++ behind)) (length before) 0 (text ++ behind) ≡ after p r
only-step before p [] behind r same stands later =
    let is : IsPiece before p.kind [] behind = rw same at stands.is in
    let some : 0 < 0 = piece-some before p.kind [] behind is in
    absurd (omega arith)
only-step before p (t ∷ ts) behind r same stands later =
    let is : IsPiece before p.kind (t ∷ ts) behind = rw same at stands.is in
    let this : standing before p.kind (t ∷ ts) ≡ p = ap (λ (z : List ℕ). standing before p.kind z) (sym same) ∙ ap (λ (s : Span). piece_of p.kind p.text s) (sym stands.span) in
    rw (pieces-step before p.kind t ts behind (piece-front before p.kind (t ∷ ts) behind is), later, this) refl

same-place : (before up_to left : List ℕ) (r : Result (List Piece) BadByte) → before ≡ up_to → pieces_at (up_to ++ left) (length up_to) 0 left ≡ r → pieces_at (before ++ left) (length before) 0 left ≡ r
same-place before up_to left r same e = rw same e

-- the pieces that a rest falls into come first, and then those of what is left
only : (before rest up_to left : List ℕ) (ps : List Piece) (r : Result (List Piece) BadByte) → Falls before rest ps left → before ++ rest ≡ up_to ++ left → pieces_at (up_to ++ left) (length up_to) 0 left ≡ r → pieces_at (before ++ rest) (length before) 0 rest ≡ after_all ps r
unfolding Falls
only before rest up_to left [] r done whole e =
    let whole' : before ++ left ≡ up_to ++ left = rw done at whole in
    rw done (same-place before up_to left r (append_cancel_right before up_to left whole') e)
only before rest up_to left (p ∷ ps) r (behind, stands, falls) whole e =
    let whole' : (before ++ p.text) ++ behind ≡ up_to ++ left = append_assoc before p.text behind ∙ ap (λ z. before ++ z) (sym stands.whole) ∙ whole in
    rw stands.whole (only-step before p p.text behind (after_all ps r) refl (record { whole = refl; span = stands.span; is = stands.is }) (only (before ++ p.text) behind up_to left ps r falls whole' e))

all-good : (ps : List Piece) → after_all ps (Ok []) ≡ Ok ps
all-good [] = refl
all-good (p ∷ ps) = rw (all-good ps) refl

all-bad : (ps : List Piece) (bad : BadByte) → after_all ps (Err bad) ≡ Err bad
all-bad [] bad = refl
all-bad (p ∷ ps) bad = rw (all-bad ps bad) refl

pub one_way : (text : List ℕ) (pieces : List Piece) → Falls [] text pieces [] → pieces_of text ≡ Ok pieces
unfolding pieces_at
one_way text pieces falls = only [] text text [] pieces (Ok []) falls (sym (append-nil text)) refl ∙ all-good pieces

-- what is left is the end of the rest
record Left (rest left : List ℕ) : Type 0 where
  front : List ℕ
  whole : rest ≡ front ++ left

left-behind : (before rest : List ℕ) (ps : List Piece) (left : List ℕ) → Falls before rest ps left → Left rest left
unfolding Falls
left-behind before rest [] left done = record { front = []; whole = done }
left-behind before rest (p ∷ ps) left (behind, stands, falls) =
    let later = left-behind (before ++ p.text) behind ps left falls in
    record { front = p.text ++ later.front; whole = stands.whole ∙ ap (λ z. p.text ++ z) later.whole ∙ sym (append_assoc p.text later.front left) }

left-bad : (up_to left : List ℕ) (code : LexCode) → IsBad up_to code left → 0 < length left → pieces_at (up_to ++ left) (length up_to) 0 left ≡ Err (record { code = code; byte = length up_to })
left-bad up_to [] code b some = absurd (omega arith)
left-bad up_to (c ∷ cs) code b some = pieces-bad up_to c cs code (bad-front up_to code (c ∷ cs) b some)

abbrev bad_byte : LexCode → ℕ → BadByte
bad_byte code byte = record { code = code; byte = byte }

pub one_bad : (text : List ℕ) (bad : BadByte) → FallsUpTo text bad → pieces_of text ≡ Err bad
one_bad text bad f =
    let l = left-behind [] text f.pieces f.left f.falls in
    let whole' : text ≡ l.front ++ f.left = l.whole in
    let many : length l.front ≡ bad.byte = let sizes = f.byte in omega (arith, simp length-append at (ap length whole')) in
    let taken : take bad.byte text ≡ l.front = ap (λ (z : List ℕ). take bad.byte z) whole' ∙ take_at l.front f.left bad.byte many in
    let code' : IsBad l.front bad.code f.left = rw taken at f.code in
    let here : pieces_at (l.front ++ f.left) (length l.front) 0 f.left ≡ Err (bad_byte bad.code (length l.front)) = left-bad l.front f.left bad.code code' f.some in
    only [] text l.front f.left f.pieces (Err (bad_byte bad.code (length l.front))) f.falls whole' here ∙ all-bad f.pieces (bad_byte bad.code (length l.front)) ∙ ap (λ (n : ℕ). Err (bad_byte bad.code n)) many
