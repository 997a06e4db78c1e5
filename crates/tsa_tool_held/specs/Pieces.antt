-- Texts that are put together of pieces.
use Rattle.std.specs.Prelude.{◌≡◌, ℕ, List, [], ◌∷◌, ◌++◌}

-- A text has a piece for each of some things, in their order, and nothing else.
abbrev pub Pieces : {X : Type 0} → (X → List ℕ → Type 0) → List X → (text : List ℕ) → Type 0
Pieces IsPiece [] text = text ≡ []
Pieces IsPiece (x ∷ xs) text = (piece : List ℕ) × (rest : List ℕ) × IsPiece x piece × Pieces IsPiece xs rest × (text ≡ piece ++ rest)
