-- The points of a body are those of the core program.
use Rattle.std.specs.Prelude.{ℕ, ◌≡◌, Bool, true, List, map, replicate}
use Rattle.tsa_base.specs.declared.token.Span.{Span}
use Rattle.tsa_tree.specs.declared.kind.Kind.{Kind}
use Rattle.tsa_tree.specs.points.Syntax.{Deed, tests, ends}
use Rattle.tsa_tree.specs.statements.Syntax.{Statements}
use Rattle.tsa_tree.specs.types.Scopes.{Scope, with_locals}
use Rattle.tsa_place_model.specs.Calls.{Layout}
use Rattle.tsa_core.specs.Bodies.{Known, knows, known_in_body, point_of, body_of}
use Rattle.tsa_core.specs.Uses.{uses_of}
use Rattle.tsa_core_points.specs.Points.{PlacedPoint}
use Rattle.tsa_core_points.specs.Stable.{stable_along}
use Rattle.tsa_core_points.specs.Steps.{body_steps}
use Rattle.tsa_core_points.specs.Walks.{walk, placed_in_body}

-- a point without its span
abbrev pub known_of : PlacedPoint → Known
known_of p = knows p.here p.deed

-- At a test and at the end nothing is declared, so that it makes no difference how many locals there are.
abbrev pub seen : Scope → Deed → Scope
seen here (tests e) = with_locals 0 here
seen here ends = with_locals 0 here
seen here deed = here

abbrev pub seen_at : Known → Known
seen_at k = knows (seen k.here k.deed) k.deed

abbrev pub PlacedAreKnown : Type 0
PlacedAreKnown = (here : Scope) (body : Statements) (close : Span)
    → map (λ p. seen_at (known_of p)) (placed_in_body here body close) ≡ map seen_at (known_in_body here body)

-- what the core program has at the points of a function with a result of a kind, and what is used at them
abbrev pub PointsAreOfTheCore : Type 0
PointsAreOfTheCore = (here : Scope) (result : Kind) (body : Statements) (close : Span)
    → map (λ p. point_of result (known_of p)) (placed_in_body here body close) ≡ (body_of here result body).points

abbrev pub UsesAreOfTheCore : Type 0
UsesAreOfTheCore = (l : Layout) (stable : ℕ → Bool) (here : Scope) (body : Statements) (close : Span)
    → map (λ p. uses_of l stable (known_of p)) (placed_in_body here body close) ≡ map (uses_of l stable) (known_in_body here body)

-- the locals that never change are told along the steps of a body
abbrev pub StableIsOfTheCore : Type 0
StableIsOfTheCore = (here : Scope) (blocks : List ℕ) (result : Kind) (body : Statements) (close : Span)
    → stable_along (replicate here.locals true) (walk here blocks) (body_steps body close) ≡ (body_of here result body).stable
