use Rattle.std.proofs.Common.{◌≡◌, drop}
use Rattle.tsa_tree.specs.units.Shapes.{item_shapes}
use Rattle.tsa_tree.specs.types.Premises.{first}
use Rattle.tsa_types_expressions.proofs.RowLaws.{noted}
use Rattle.tsa_tree.specs.types.Units.{items_premises}
use Rattle.tsa_types_row.specs.ItemRows.{row_in_unit_items}
use Rattle.tsa_types.proofs.unit.declare_items.Given as goal

abbrev pub invariant-each : goal.invariant-each
invariant-each l = record {
  judged : first (items_premises l.walk.scope (item_shapes (drop l.item-index l.items))) ≡ first (items_premises l.fn.walk.scope (item_shapes l.items));
  nodes : noted l.walk.row (row_in_unit_items l.walk.scope (item_shapes (drop l.item-index l.items))) ≡ noted l.fn.walk.row (row_in_unit_items l.fn.walk.scope (item_shapes l.items));
}
