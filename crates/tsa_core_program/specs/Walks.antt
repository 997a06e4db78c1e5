-- A walk along the row of a unit, node by node, and what is found along it.
use Rattle.std.specs.Prelude.{ℕ, ◌+◌, Bool, true, false, List, [], ◌∷◌, ◌++◌, length, replicate, Option, Some, None, slice_get}
use Rattle.tsa_tree.specs.declared.kind.Kind.{Kind}
use Rattle.tsa_tree.specs.declared.meaning.Symbol.TheVariants as symbol
use Rattle.tsa_tree.specs.units.Syntax.{UnitItem, body_item}
use Rattle.tsa_types_row.specs.ItemRows.{row_in_unit}
use Rattle.tsa_types_row.specs.declared.node.Node.{Node}
use Rattle.tsa_types_row.specs.declared.node.Op.{Op}
use Rattle.tsa_types_row.specs.declared.node.Op.TheVariants as op
use Rattle.tsa_core_rows.specs.Reading.{op_kinds, stable_at}
use Rattle.tsa_core_rows.specs.Stretches.{is_point}
use Rattle.tsa_core_program.specs.declared.ranges.Begin.{Begin}
use Rattle.tsa_core_program.specs.declared.ranges.BodyRange.{BodyRange}

-- how many parameters the functions of bodies have, in order of the text
abbrev pub counts_by : UnitItem → List ℕ
counts_by (body_item head body close) = length head.params ∷ []
counts_by item = []

abbrev pub counts_in : List UnitItem → List ℕ
counts_in [] = []
counts_in (item ∷ rest) = counts_by item ++ counts_in rest

-- What a walk has found: the lists of the bodies behind which it has come, and of the body that it stands in where that began, and which
-- of its locals didn't change yet.
pub record Walked : Type 0 where
  pub counts : List ℕ
  pub function : ℕ
  pub begin : Option Begin
  pub flags : List Bool
  pub bodies : List BodyRange
  pub kinds : List Kind
  pub stable : List Bool
  pub points : List ℕ

abbrev pub outset : List ℕ → Walked
outset counts = record { counts = counts; function = 0; begin = None; flags = []; bodies = []; kinds = []; stable = []; points = [] }

abbrev count_or_none : Option ℕ → ℕ
count_or_none None = 0
count_or_none (Some n) = n

abbrev pub count_at : List ℕ → ℕ → ℕ
count_at counts n = count_or_none (slice_get counts n)

-- the head of a function stands before its body
abbrev pub headed : Op → Walked → Walked
headed (op.Declared (symbol.Function n)) w = record {
  counts = w.counts;
  function = n;
  begin = w.begin;
  flags = w.flags;
  bodies = w.bodies;
  kinds = w.kinds;
  stable = w.stable;
  points = w.points;
}
headed o w = w

-- a body begins with a point, unless one is begun: none of its parameters has changed
abbrev pub begun : Option Begin → ℕ → Walked → Walked
begun (Some b) at w = w
begun None at w = record {
  counts = w.counts;
  function = w.function;
  begin = Some (record { node = at; kinds = length w.kinds; points = length w.points });
  flags = replicate (count_at w.counts (length w.bodies)) true;
  bodies = w.bodies;
  kinds = w.kinds;
  stable = w.stable;
  points = w.points;
}

abbrev pub with_point : ℕ → Walked → Walked
with_point at w = record {
  counts = w.counts;
  function = w.function;
  begin = w.begin;
  flags = w.flags;
  bodies = w.bodies;
  kinds = w.kinds;
  stable = w.stable;
  points = w.points ++ at ∷ [];
}

abbrev pub pointed : Bool → ℕ → Walked → Walked
pointed false at w = w
pointed true at w = with_point at (begun w.begin at w)

-- a local is declared, or one changes
abbrev pub declared : Op → Kind → Walked → Walked
declared o kind w = record {
  counts = w.counts;
  function = w.function;
  begin = w.begin;
  flags = w.flags;
  bodies = w.bodies;
  kinds = w.kinds ++ op_kinds o kind;
  stable = w.stable;
  points = w.points;
}

abbrev pub with_flags : List Bool → Walked → Walked
with_flags flags w = record {
  counts = w.counts;
  function = w.function;
  begin = w.begin;
  flags = flags;
  bodies = w.bodies;
  kinds = w.kinds;
  stable = w.stable;
  points = w.points;
}

abbrev pub flagged : Op → List Node → Walked → Walked
flagged o next w = with_flags (stable_at w.flags o next) w

-- a body ends
abbrev pub closed : ℕ → Begin → Walked → Walked
closed at b w = record {
  counts = w.counts;
  function = w.function;
  begin = None;
  flags = w.flags;
  bodies = w.bodies ++ record {
    function = w.function;
    nodes = record { from = b.node; to = at + 1 };
    kinds = record { from = b.kinds; to = length w.kinds };
    stable = record { from = length w.stable; to = length w.stable + length w.flags };
    points = record { from = b.points; to = length w.points };
  } ∷ [];
  kinds = w.kinds;
  stable = w.stable ++ w.flags;
  points = w.points;
}

abbrev pub closed_by : Option Begin → ℕ → Walked → Walked
closed_by None at w = w
closed_by (Some b) at w = closed at b w

abbrev pub ended : Op → ℕ → Walked → Walked
ended op.End at w = closed_by w.begin at w
ended o at w = w

-- one node, with the one behind it, where there is one
abbrev pub walk_node : ℕ → Node → List Node → Walked → Walked
walk_node at node next w =
    ended node.op at (flagged node.op next (declared node.op node.thing.thing.kind (pointed (is_point node.op) at (headed node.op w))))

abbrev pub front : List Node → List Node
front [] = []
front (node ∷ rest) = node ∷ []

abbrev pub walk_behind : ℕ → Walked → List Node → Walked
walk_behind at w [] = w
walk_behind at w (node ∷ rest) = walk_behind (at + 1) (walk_node at node (front rest) w) rest

-- the lists that a walk leaves
pub record Lists : Type 0 where
  pub bodies : List BodyRange
  pub kinds : List Kind
  pub stable : List Bool
  pub points : List ℕ

abbrev pub lists_of : Walked → Lists
lists_of w = record { bodies = w.bodies; kinds = w.kinds; stable = w.stable; points = w.points }

-- what is found along the row of a unit
abbrev pub lists_in : List UnitItem → Lists
lists_in items = lists_of (walk_behind 0 (outset (counts_in items)) (row_in_unit items))
