-- A walk comes by the points of a body.
use Rattle.std.specs.Prelude.{ℕ, ◌≡◌, List, map}
use Rattle.tsa_base.specs.declared.token.Span.{Span}
use Rattle.tsa_tree.specs.points.Syntax.{PlacedDeed, points_of_all, points_of_body}
use Rattle.tsa_tree.specs.statements.Syntax.{Statement, Statements}
use Rattle.tsa_tree.specs.types.Scopes.{Scope, further}
use Rattle.tsa_tree.specs.types.Statements.{behind, behind_all}
use Rattle.tsa_tree.specs.types.Targets.{declared_in_all}
use Rattle.tsa_core_points.specs.Points.{PlacedPoint, placed_in, placed_all}
use Rattle.tsa_core_points.specs.Steps.{steps_of, steps_of_all, body_steps}
use Rattle.tsa_core_points.specs.Walks.{walk, walk_behind, points_along, placed_in_body}

-- The steps of a statement come by its points, and lead to behind it, where the same blocks are open.
abbrev pub StatementsArePassed : Type 0
StatementsArePassed = (here : Scope) (blocks : List ℕ) (s : Statement) → (points_along (walk here blocks) (steps_of s) ≡ placed_in here s)
    × (walk_behind (walk here blocks) (steps_of s) ≡ walk (behind here s) blocks)

-- and so do those of statements one behind the other
abbrev pub StepsAreThePoints : Type 0
StepsAreThePoints = (here : Scope) (blocks : List ℕ) (body : Statements) → (points_along (walk here blocks) (steps_of_all body) ≡ placed_all here body)
    × (walk_behind (walk here blocks) (steps_of_all body) ≡ walk (behind_all here body) blocks)

-- A whole body with its end: behind it the names are those before it, and the numbers of locals go on.
abbrev pub BodyStepsAreThePoints : Type 0
BodyStepsAreThePoints = (here : Scope) (blocks : List ℕ) (body : Statements) (close : Span)
    → (points_along (walk here blocks) (body_steps body close) ≡ placed_in_body here body close)
    × (walk_behind (walk here blocks) (body_steps body close) ≡ walk (further (declared_in_all body) here) blocks)

-- The points are those of the text.
abbrev pub written_of : PlacedPoint → PlacedDeed
written_of p = record { deed = p.deed; span = p.span }

abbrev pub PlacedAreWritten : Type 0
PlacedAreWritten = (here : Scope) (body : Statements) (close : Span)
    → (map written_of (placed_all here body) ≡ points_of_all body) × (map written_of (placed_in_body here body close) ≡ points_of_body body close)
