-- What a program says of its bodies.
use Rattle.std.specs.Prelude.{ℕ, ◌+◌, ◌-◌, Bool, List, [], ◌∷◌, ◌++◌, map, take, drop, nat_eq, Option, Some, None, if◌then◌else◌}
use Rattle.tsa_tree.specs.declared.kind.Kind.{Kind}
use Rattle.tsa_tree.specs.types.DeclaredTypes.{thing_type}
use Rattle.tsa_tree.specs.types.Lookups.{params_in}
use Rattle.tsa_types_row.specs.declared.node.Node.{Node}
use Rattle.tsa_types_row.specs.declared.node.Op.{Op}
use Rattle.tsa_core.specs.Bodies.{Point}
use Rattle.tsa_core.specs.Programs.{body_in}
use Rattle.tsa_core_rows.specs.Reading.{read_row}
use Rattle.tsa_core_rows.specs.Stretches.{is_point, UnitBody, row_of_body}
use Rattle.tsa_core_program.specs.Walks.{Lists}
use Rattle.tsa_core_program.specs.declared.ranges.BodyRange.{BodyRange}
use Rattle.tsa_core_program.specs.declared.ranges.Range.{Range}

-- what stands in a range of a list
abbrev pub between : {A : Type 0} → List A → Range → List A
between list range = take (range.to - range.from) (drop range.from list)

-- the first body of a function
abbrev pub body_of : ℕ → List BodyRange → Option BodyRange
body_of function [] = None
body_of function (body ∷ rest) = if nat_eq body.function function then Some body else body_of function rest

-- the numbers of the points among nodes, of which the first has a number
abbrev pub op_points : ℕ → Op → List ℕ
op_points at o = if is_point o then at ∷ [] else []

abbrev pub points_from : ℕ → List Node → List ℕ
points_from at [] = []
points_from at (node ∷ rest) = op_points at node.op ++ points_from (at + 1) rest

-- What is said of a body: its function, its nodes, the kinds of the locals that it declares, which of its locals never change, and where its
-- points are, counted from its first node.
pub record Found : Type 0 where
  pub function : ℕ
  pub nodes : List Node
  pub kinds : List Kind
  pub stable : List Bool
  pub points : List ℕ

-- by the row of the unit and the lists
abbrev pub found_in : List Node → Lists → BodyRange → Found
found_in row lists body = record {
  function = body.function;
  nodes = between row body.nodes;
  kinds = between lists.kinds body.kinds;
  stable = between lists.stable body.stable;
  points = map (λ n. n - body.nodes.from) (between lists.points body.points);
}

abbrev pub bodies_found : List Node → Lists → List Found
bodies_found row lists = map (found_in row lists) lists.bodies

-- by the core program
abbrev pub found_of : UnitBody → Found
found_of b = record {
  function = b.function;
  nodes = (row_of_body b).nodes;
  kinds = (body_in b.bodied).locals;
  stable = (body_in b.bodied).stable;
  points = points_from 0 (row_of_body b).nodes;
}

-- the first point of what the row of a body is read as from a node on
abbrev pub front_point : List Point → Option Point
front_point [] = None
front_point (p ∷ rest) = Some p

abbrev pub point_from : UnitBody → ℕ → Option Point
point_from b n =
    front_point (read_row (params_in b.bodied.here) (thing_type b.bodied.here b.bodied.head.result).kind (drop n (row_of_body b).nodes)).points

-- the points at the numbers that are found, and those of the core program
abbrev pub points_there : UnitBody → List (Option Point)
points_there b = map (point_from b) (points_from 0 (row_of_body b).nodes)

abbrev pub points_meant : UnitBody → List (Option Point)
points_meant b = map (λ p. Some p) (body_in b.bodied).points

-- the first body of a function, by the unit
abbrev pub body_numbered : ℕ → List UnitBody → Option UnitBody
body_numbered function [] = None
body_numbered function (b ∷ rest) = if nat_eq b.function function then Some b else body_numbered function rest
