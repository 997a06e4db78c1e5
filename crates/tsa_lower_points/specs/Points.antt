-- The code of a point of a row: of its call, behind it of what is done, and how many slots it uses.
use Rattle.std.specs.Prelude.{◌≡◌, ℕ, suc, true, false, List, ◌∷◌, drop, Option, Some, None}
use Rattle.tsa_tree.specs.declared.kind.Kind.{Kind}
use Rattle.tsa_types_row.specs.declared.node.Node.{Node}
use Rattle.tsa_core.specs.Bodies.{Point, point}
use Rattle.tsa_core.specs.Meanings.{Call}
use Rattle.tsa_core.specs.Programs.{Program}
use Rattle.tsa_core_rows.specs.Reading.{read_row}
use Rattle.tsa_core_rows.specs.Stretches.{is_point}
use Rattle.tsa_lower_code.specs.PointCodes.{action_code, begin_code, point_height}
use Rattle.tsa_lower_code.specs.declared.instr.Instr.{Instr}
use Rattle.tsa_lower_points.specs.Actions.{PointNode, action_of, call_by}
use Rattle.tsa_lower_points.specs.Callees.{AreCallees, callee_in, called_code}
use Rattle.tsa_lower_points.specs.declared.callee.Callee.{Callee}
use Rattle.tsa_lower_terms.specs.Sources.{Source, params_by}

-- the point that a node is
abbrev pub point_of : PointNode → Point
point_of p = point (call_by p p.op) (action_of p)

-- a point begins with its call, where it has one
abbrev pub begun_code : List Callee → PointNode → Option Call → List Instr
begun_code callees p None = action_code p.source.layout false (action_of p)
begun_code callees p (Some c) = called_code p.source.layout (callee_in callees c.function) c

abbrev pub begin_of : List Callee → PointNode → List Instr
begin_of callees p = begun_code callees p (call_by p p.op)

abbrev pub rest_of : PointNode → List Instr
rest_of p = action_code p.source.layout true (action_of p)

abbrev pub height_of : PointNode → ℕ
height_of p = point_height (point_of p) (call_by p p.op)

-- the code of the points of a program
abbrev pub PointsHaveTheirCode : Type 0
PointsHaveTheirCode = (u : Program) (callees : List Callee) → AreCallees u callees → (p : PointNode) → p.source.layout ≡ u.layout
    → begin_of callees p ≡ begin_code u (point_of p) (point_of p).call

-- a node that is a point, in front of others in a row
abbrev pub node_at : Source → Kind → Node → ℕ → PointNode
node_at s result n behind = record { source = s; op = n.op; kind = n.thing.thing.kind; result = result; behind = behind }

-- it is the point that the row is read as from it on
abbrev pub PointsAreThoseRead : Type 0
PointsAreThoseRead = (s : Source) (result : Kind) (n : Node) (at : ℕ) → drop at s.row ≡ n ∷ drop (suc at) s.row → is_point n.op ≡ true
    → (read_row (params_by s.functions) result (drop at s.row)).points
    ≡ point_of (node_at s result n (suc at)) ∷ (read_row (params_by s.functions) result (drop (suc at) s.row)).points
