-- Pieces that stand from one place on up to before another.
use Rattle.std.proofs.Common.{ℕ, ◌+◌, ◌≡◌, subst, refl, arith, List, [], ◌∷◌, ◌++◌, length}
use Rattle.tsa_base.specs.Tokens.{Lexeme}
use Rattle.tsa_print.specs.Canonical.{Piece}
use Rattle.tsa_print.proofs.Apart.{AreTokens}
use Rattle.tsa_print.proofs.PieceSigns.{Looks, Shows, shown, as_many}

-- these pieces, and nothing else, stand from a up to before b
abbrev pub Run : List Lexeme → ℕ → List Piece → ℕ → Type 0
Run ts a [] b = a ≡ b
Run ts a (p ∷ ps) b = Looks ts a p × Run ts (a + 1) ps b

pub run_split : (ts : List Lexeme) (a b : ℕ) (ps qs : List Piece) → Run ts a (ps ++ qs) b → (m : ℕ) × Run ts a ps m × Run ts m qs b
run_split ts a b [] qs h = (a, refl, h)
run_split ts a b (p ∷ ps) qs h =
    let s = run_split ts (a + 1) b ps qs h.1 in
    (s.0, (h.0, s.1), s.2)

pub run_shows : (ts : List Lexeme) (a b : ℕ) (ps : List Piece) → Run ts a ps b → Shows ts a ps
run_shows ts a b [] h = tt
run_shows ts a b (p ∷ ps) h = (h.0, run_shows ts (a + 1) b ps h.1)

pub run_long : (ts : List Lexeme) (a b : ℕ) (ps : List Piece) → Run ts a ps b → a + length ps ≡ b
run_long ts a b [] h = let e : a ≡ b = h in omega arith
run_long ts a b (p ∷ ps) h = let e = run_long ts (a + 1) b ps h.1 in omega arith

shows_run : (ts : List Lexeme) (a : ℕ) (ps : List Piece) → Shows ts a ps → Run ts a ps (a + length ps)
shows_run ts a [] h = omega arith
shows_run ts a (p ∷ ps) h =
    let long : a + 1 + length ps ≡ a + length (p ∷ ps) = omega arith in
    (h.0, subst (Run ts (a + 1) ps) long (shows_run ts (a + 1) ps h.1))

-- tokens that are pieces are a run of them
pub whole_run : (ps : List Piece) (ts : List Lexeme) → AreTokens ps ts → Run ts 0 ps (length ts)
whole_run ps ts h =
    let e = as_many ps ts h in
    let long : 0 + length ps ≡ length ts = omega arith in
    subst (Run ts 0 ps) long (shows_run ts 0 ps (shown ps ts h))
