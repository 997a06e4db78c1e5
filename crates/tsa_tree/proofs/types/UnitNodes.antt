-- The nodes of items beside their premises: the first failing node of a unit is what its premises tell.
use Rattle.std.proofs.Common.{true, false, List, [], ◌∷◌, refl}
use Rattle.tsa_tree.specs.units.Syntax.{UnitItem, structure_item, alias_item, enumeration_item, global_item, function_item, body_item}
use Rattle.tsa_tree.specs.declared.kind.Declaring.TheVariants as declaring
use Rattle.tsa_tree.specs.types.Fails.{fails}
use Rattle.tsa_tree.specs.types.FirstFailing.{failure_at, PremisesTellIt}
use Rattle.tsa_tree.specs.types.Heads.{inside}
use Rattle.tsa_tree.specs.types.Node as node
use Rattle.tsa_tree.specs.types.Node.{told_at}
use Rattle.tsa_tree.specs.types.Nodes.{nodes_in_item, nodes_in_items}
use Rattle.tsa_tree.specs.types.Premises.{first}
use Rattle.tsa_tree.specs.types.Scopes.{Scope, is_taken}
use Rattle.tsa_tree.specs.types.Units.{outset, around_body, body_premises, item_premises, behind_item, items_premises}
use Rattle.tsa_tree.proofs.types.NodeLists.{Agree, no_nodes, joined}
use Rattle.tsa_tree.proofs.types.DeclarationNodes.{declared_agrees, struct_agrees, enum_agrees, global_agrees, head_agrees}
use Rattle.tsa_tree.proofs.types.StatementNodes.{statements_agree}

-- an item
item_agrees : (here : Scope) (item : UnitItem) → Agree (nodes_in_item here item) (item_premises here item)
unfolding body_premises failure_at fails told_at first
item_agrees here (structure_item tag alias attrs members span) = struct_agrees here tag alias attrs members span
item_agrees here (alias_item name ctype span) = declared_agrees (node.alias here name ctype span) here declaring.Type (is_taken name.text here) span ctype refl
item_agrees here (enumeration_item tag alias values span) = enum_agrees here tag alias values span
item_agrees here (global_item d) = global_agrees here d
item_agrees here (function_item head) = head_agrees here head false
item_agrees here (body_item head body close) = joined (head_agrees here head true) (statements_agree (around_body here head body) (inside here head true) body)

-- items, each with what those before it declare
items_agree : (here : Scope) (items : List UnitItem) → Agree (nodes_in_items here items) (items_premises here items)
unfolding nodes_in_items items_premises
items_agree here [] = no_nodes
items_agree here (item ∷ rest) = joined (item_agrees here item) (items_agree (behind_item here item) rest)

-- a unit
pub premises_tell_it : PremisesTellIt
premises_tell_it items = (items_agree (outset items) items).same
