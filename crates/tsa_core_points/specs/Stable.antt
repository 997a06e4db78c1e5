-- Which locals never change, told along the steps of a body.
use Rattle.std.specs.Prelude.{ℕ, Bool, List, [], ◌∷◌, Option, Some, None}
use Rattle.tsa_tree.specs.types.Scopes.{Scope}
use Rattle.tsa_core.specs.Bodies.{stable_by}
use Rattle.tsa_core.specs.Terms.{Term, variable}
use Rattle.tsa_core_points.specs.Steps.{BodyStep, does, opens, closes}
use Rattle.tsa_core_points.specs.Walks.{Walk, pass}

abbrev pub stable_at : List Bool → Scope → BodyStep → List Bool
stable_at stable here (does deed span) = stable_by stable here deed
stable_at stable here opens = stable
stable_at stable here closes = stable

abbrev pub stable_along : List Bool → Walk → List BodyStep → List Bool
stable_along stable w [] = stable
stable_along stable w (step ∷ rest) = stable_along (stable_at stable w.here step) (pass w step) rest

-- the local that a term is, by its number
abbrev pub local_number : Term → Option ℕ
local_number (variable n) = Some n
local_number term = None
