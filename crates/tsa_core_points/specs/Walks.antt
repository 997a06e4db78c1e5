-- A walk through the steps of a body, and what is known by name on it.
use Rattle.std.specs.Prelude.{ℕ, List, [], ◌∷◌, ◌++◌, length, take}
use Rattle.tsa_base.specs.declared.token.Span.{Span}
use Rattle.tsa_tree.specs.points.Syntax.{Deed, declares, ends}
use Rattle.tsa_tree.specs.statements.Syntax.{Statements}
use Rattle.tsa_tree.specs.types.Locals.{behind_local}
use Rattle.tsa_tree.specs.types.Scopes.{Scope, with_names, further}
use Rattle.tsa_tree.specs.types.Targets.{declared_in_all}
use Rattle.tsa_core_points.specs.Points.{PlacedPoint, placed, placed_all}
use Rattle.tsa_core_points.specs.Steps.{BodyStep, does, opens, closes}

-- what is known, and how many names were known where each open block began, the innermost first
pub record Walk : Type 0 where
  pub here : Scope
  pub blocks : List ℕ

abbrev pub walk : Scope → List ℕ → Walk
walk here blocks = record { here = here; blocks = blocks }

-- a local is known from behind its declaration on
abbrev pub behind_deed : Scope → Deed → Scope
behind_deed here (declares d) = behind_local here d
behind_deed here deed = here

-- the names of the innermost block end
abbrev pub closed : Scope → List ℕ → Walk
closed here [] = walk here []
closed here (names ∷ blocks) = walk (with_names (take names here.names) here) blocks

abbrev pub pass : Walk → BodyStep → Walk
pass w (does deed span) = walk (behind_deed w.here deed) w.blocks
pass w opens = walk w.here (length w.here.names ∷ w.blocks)
pass w closes = closed w.here w.blocks

abbrev pub walk_behind : Walk → List BodyStep → Walk
walk_behind w [] = w
walk_behind w (step ∷ rest) = walk_behind (pass w step) rest

-- the points on the way, each with what is known there
abbrev pub points_at : Scope → BodyStep → List PlacedPoint
points_at here (does deed span) = placed here deed span ∷ []
points_at here opens = []
points_at here closes = []

abbrev pub points_along : Walk → List BodyStep → List PlacedPoint
points_along w [] = []
points_along w (step ∷ rest) = points_at w.here step ++ points_along (pass w step) rest

-- the points of a body with its end, where its names are known no longer
abbrev pub placed_in_body : Scope → Statements → (close : Span) → List PlacedPoint
placed_in_body here body close = placed_all here body ++ placed (further (declared_in_all body) here) ends close ∷ []
