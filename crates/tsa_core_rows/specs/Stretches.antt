-- Where bodies stand in the row of a unit: each begins with its first point behind the end before it, and its own end is the last of it.
use Rattle.std.specs.Prelude.{ℕ, ◌+◌, ◌-◌, Bool, true, false, List, [], ◌∷◌, ◌++◌, map, take, drop, Option, Some, None}
use Rattle.std.specs.Str.{bytes_eq}
use Rattle.tsa_base.specs.declared.token.Span.{Span}
use Rattle.tsa_tree.specs.declarations.Syntax.{Head}
use Rattle.tsa_tree.specs.declared.meaning.Symbol.TheVariants as symbol
use Rattle.tsa_tree.specs.types.DeclaredTypes.{thing_type}
use Rattle.tsa_tree.specs.types.Heads.{inside}
use Rattle.tsa_tree.specs.types.Lookups.{params_in}
use Rattle.tsa_tree.specs.types.Scopes.{Scope}
use Rattle.tsa_tree.specs.types.Symbols.{number_of}
use Rattle.tsa_tree.specs.types.Units.{behind_item}
use Rattle.tsa_tree.specs.units.Syntax.{UnitItem, body_item}
use Rattle.tsa_types_row.specs.BodyRows.{row_in_body}
use Rattle.tsa_types_row.specs.declared.node.Node.{Node}
use Rattle.tsa_types_row.specs.declared.node.Op.{Op}
use Rattle.tsa_types_row.specs.declared.node.Op.TheVariants as op
use Rattle.tsa_core.specs.Programs.{Bodied, or_body, body_in}
use Rattle.tsa_core_rows.specs.Reading.{Reading, read_row, points_alone}

-- which nodes are points
abbrev pub is_point : Op → Bool
is_point (op.Declare n has_value) = true
is_point op.Evaluate = true
is_point (op.Set o) = true
is_point (op.Test given) = true
is_point op.Branch = true
is_point op.Move = true
is_point (op.Give given) = true
is_point op.End = true
is_point _ = false

-- A stretch of a row: the function whose head stood last before it, and the numbers of its first node and of the node behind it.
pub record Stretch : Type 0 where
  pub function : ℕ
  pub from : ℕ
  pub to : ℕ

-- Where a reader stands: at a node, behind the head of a function, and in a body that began at a node or in none.
pub record Stand : Type 0 where
  pub at : ℕ
  pub function : ℕ
  pub begin : Option ℕ

abbrev pub start : Stand
start = record { at = 0; function = 0; begin = None }

-- a point begins a body where none is begun
abbrev pub begun : Bool → ℕ → Option ℕ → Option ℕ
begun true at None = Some at
begun is_point at begin = begin

abbrev pub or_here : ℕ → Option ℕ → ℕ
or_here at None = at
or_here at (Some begin) = begin

-- what one node makes of it
abbrev pub behind_node : Stand → Op → Stand
behind_node s (op.Declared (symbol.Function n)) = record { at = s.at + 1; function = n; begin = s.begin }
behind_node s op.End = record { at = s.at + 1; function = s.function; begin = None }
behind_node s o = record { at = s.at + 1; function = s.function; begin = begun (is_point o) s.at s.begin }

abbrev pub ended_at : Stand → Op → List Stretch
ended_at s op.End = record { function = s.function; from = or_here s.at s.begin; to = s.at + 1 } ∷ []
ended_at s o = []

abbrev pub stretches_behind : Stand → List Node → List Stretch
stretches_behind s [] = []
stretches_behind s (node ∷ rest) = ended_at s node.op ++ stretches_behind (behind_node s node.op) rest

abbrev pub stretches_read : List Node → List Stretch
stretches_read row = stretches_behind start row

-- the bodies of a row, in order: each with the number of its function
pub record BodyRow : Type 0 where
  pub function : ℕ
  pub nodes : List Node

abbrev pub nodes_between : List Node → ℕ → ℕ → List Node
nodes_between row from to = take (to - from) (drop from row)

abbrev pub body_at : List Node → Stretch → BodyRow
body_at row s = record { function = s.function; nodes = nodes_between row s.from s.to }

abbrev pub bodies_read : List Node → List BodyRow
bodies_read row = map (body_at row) (stretches_read row)

-- The bodies of a unit in order of the text, each with the number of its function and the brace that closes it.
pub record UnitBody : Type 0 where
  pub bodied : Bodied
  pub function : ℕ
  pub close : Span

abbrev pub body_of_head : Scope → Head → Bodied → Span → UnitBody
body_of_head here head b close = record { bodied = b; function = number_of here head; close = close }

abbrev pub body_by : Scope → UnitItem → List UnitBody
body_by here (body_item head body close) = body_of_head here head (record { here = inside here head true; head = head; body = body }) close ∷ []
body_by here item = []

unfoldable pub bodies_in : Scope → List UnitItem → List UnitBody
bodies_in here [] = []
bodies_in here (item ∷ rest) = body_by here item ++ bodies_in (behind_item here item) rest

abbrev pub row_of_body : UnitBody → BodyRow
row_of_body b = record { function = b.function; nodes = row_in_body b.bodied.here b.function b.bodied.body b.close }

-- what the row of a body is read as, and the points that the core program has there
abbrev pub reading_of : UnitBody → Reading
reading_of b = read_row (params_in b.bodied.here) (thing_type b.bodied.here b.bodied.head.result).kind (row_of_body b).nodes

abbrev pub points_of : UnitBody → Reading
points_of b = points_alone (body_in b.bodied).points

-- the first body of a name
abbrev pub first_named : List ℕ → List UnitBody → Option Bodied
first_named name [] = None
first_named name (b ∷ rest) = or_body (bytes_eq name b.bodied.head.name.text) b.bodied (first_named name rest)
