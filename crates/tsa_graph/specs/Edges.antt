-- Edges by the points that they leave and lead to, and points that follow each other alone.
use Rattle.std.specs.Prelude.{ℕ, ◌≡◌, ◌<◌, nat_eq, List, [], ◌∷◌, if◌then◌else◌}
use Rattle.tsa_core.specs.Control.{Outcome, Edge, edge}

-- the edges that leave a point, and those that lead to one, in order
abbrev pub edges_from : ℕ → List Edge → List Edge
edges_from p [] = []
edges_from p (e ∷ es) = if nat_eq e.from p then e ∷ edges_from p es else edges_from p es

abbrev pub edges_into : ℕ → List Edge → List Edge
edges_into q [] = []
edges_into q (e ∷ es) = if nat_eq e.to q then e ∷ edges_into q es else edges_into q es

-- all of them go between so many points
abbrev pub GoBetween : ℕ → List Edge → Type 0
GoBetween n [] = Unit {0}
GoBetween n (e ∷ es) = (e.from < n) × (e.to < n) × GoBetween n es

-- A point leads to another alone: the edge between them is its only one, and the only one into the other, which isn't where the body is
-- entered.
pub record IsStep (es : List Edge) (p : ℕ) (o : Outcome) (q : ℕ) : Type 0 where
  pub out : edges_from p es ≡ edge p o q ∷ []
  pub into : edges_into q es ≡ edge p o q ∷ []
  pub inside : q ≡ 0 → ⊥
