-- What a statement adds to the points that were read before it, and the numbers that it bears.
use Rattle.std.specs.Prelude.{ℕ, ◌≡◌, ◌++◌, ◌∷◌, [], List, Some, None, length, map}
use Rattle.std.specs.Borrow.{Bor}
use Rattle.std.specs.declared.option.Option.{Option}
use Rattle.tsa_base.specs.declared.token.Span.{Span}
use Rattle.tsa_tree.specs.declared.stmt.Action.{Action}
use Rattle.tsa_tree.specs.declared.stmt.Point.{Point}
use Rattle.tsa_tree.specs.declared.stmt.Stmt.{Stmt}
use Rattle.tsa_tree.specs.declared.stmt.StmtKind.{StmtKind}
use Rattle.tsa_tree.specs.points.Syntax.{points_of, points_of_all, points_of_init, points_of_step}
use Rattle.tsa_tree.specs.statements.Shapes.{stmt_shape, stmt_shapes, point_shape, action_shape, IsNumbered, AreNumbered, MayBeFirst}
use Rattle.tsa_tree.specs.statements.Shapes.{MayBeThird}
use Rattle.tsa_tree.specs.declared.stmt.StmtKind.TheVariants as kinds
use Rattle.tsa_unit_simple.specs.declared.simple.SimpleKind.{SimpleKind}
use Rattle.tsa_unit_simple.specs.declared.simple.SimpleKind.TheVariants.{Eval, Assign}
use Rattle.tsa_unit_simple.specs.Readings.{init_seen, step_seen}

abbrev pub IsPointed : (old new : List Point) → Stmt → Type 0
IsPointed old new s =
    (map point_shape new ≡ map point_shape old ++ points_of (stmt_shape s.kind s.span)) × IsNumbered s.kind s.point s.span (length old)

-- a statement with one point, where this is done
abbrev pub IsAlone : StmtKind → Action → Span → Type 0
IsAlone kind action span =
    (points_of (stmt_shape kind span) ≡ record { deed = action_shape action; span = span } ∷ [])
    × ((n : ℕ) → IsNumbered kind (Some n) span n)

-- the statement that a simple one is, whose point has a number
abbrev pub simple_with : SimpleKind → (number : ℕ) → Span → Stmt
simple_with (Eval x) number span = record { kind = kinds.Eval x; point = Some number; span = span }
simple_with (Assign left op right) number span = record { kind = kinds.Assign left op right; point = Some number; span = span }

-- the same for the statements of a block
abbrev pub ArePointed : (old new : List Point) → List Stmt → Type 0
ArePointed old new list = (map point_shape new ≡ map point_shape old ++ points_of_all (stmt_shapes list)) × AreNumbered list (length old)

-- the first part of a `for`, where it is there
abbrev pub IsPartAt : Option (Bor Stmt) → (n : ℕ) → Type 0
IsPartAt None n = Unit {0}
IsPartAt (Some s) n = MayBeFirst s.now.kind s.now.span × (s.now.point ≡ Some n)

-- the third part
abbrev pub IsStepAt : Option (Bor Stmt) → (n : ℕ) → Type 0
IsStepAt None n = Unit {0}
IsStepAt (Some s) n = MayBeThird s.now.kind × (s.now.point ≡ Some n)

-- what the first part of a `for` adds, and what the third one adds
abbrev pub IsBegun : (old new : List Point) → Option (Bor Stmt) → Type 0
IsBegun old new s = (map point_shape new ≡ map point_shape old ++ points_of_init (init_seen s)) × IsPartAt s (length old)

abbrev pub IsStepped : (old new : List Point) → Option (Bor Stmt) → Type 0
IsStepped old new s = (map point_shape new ≡ map point_shape old ++ points_of_step (step_seen s)) × IsStepAt s (length old)

-- what the other arm of an `if` adds, where there is one
abbrev pub ArmsPointed : (old new : List Point) → Option (Bor Stmt) → Type 0
ArmsPointed old new None = new ≡ old
ArmsPointed old new (Some s) = IsPointed old new s.now
