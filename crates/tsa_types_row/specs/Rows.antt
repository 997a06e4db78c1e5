-- Rows of nodes: each node stands in front of its parts, and says how many nodes it is with them.
use Rattle.std.specs.Prelude.{ℕ, suc, ◌-◌, List, ◌∷◌, length, Option, Some, None, slice_set}
use Rattle.std.specs.List.{flat_map}
use Rattle.tsa_tree.specs.declared.meaning.Symbol.{Symbol}
use Rattle.tsa_tree.specs.expressions.Syntax.{nowhere}
use Rattle.tsa_tree.specs.types.Symbols.{Names, name_at}
use Rattle.tsa_tree.specs.declared.kind.Kind.TheVariants as type
use Rattle.tsa_tree.specs.types.Types.{value}
use Rattle.tsa_types_row.specs.declared.node.Node.{Node}
use Rattle.tsa_types_row.specs.declared.node.Op.{Op}
use Rattle.tsa_types_row.specs.declared.node.Op.TheVariants as op

-- a node that is so many nodes with its parts
abbrev pub sized : ℕ → Node → Node
sized n node = record { op = node.op; thing = node.thing; worth = node.worth; size = n; span = node.span }

-- a node in front of its parts
abbrev pub framed : Node → List Node → List Node
framed node parts = sized (suc (length parts)) node ∷ parts

-- what stands in front of parts until their node is known
abbrev pub hole : Node
hole = record { op = op.Aside; thing = value type.Void; worth = None; size = 1; span = nowhere }

-- a node is put into its room, in front of all that came since
abbrev pub closed : ℕ → Node → List Node → List Node
closed at node row = slice_set row at (sized (length row - at) node)

-- the names of a row: what a node means that is a name
abbrev pub op_symbol : Op → Option Symbol
op_symbol (op.Name symbol is_fixed) = symbol
op_symbol (op.Callee symbol) = symbol
op_symbol (op.Declared symbol) = Some symbol
op_symbol _ = None

abbrev pub names_read : List Node → Names
names_read row = flat_map (λ n. name_at n.span (op_symbol n.op)) row
