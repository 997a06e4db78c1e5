use Rattle.std.proofs.Common.{◌≡◌, drop, None}
use Rattle.tsa_tree.specs.types.Premises.{first}
use Rattle.tsa_tree.specs.types.Units.{items_premises}
use Rattle.tsa_tree.specs.units.Shapes.{item_shapes}
use Rattle.tsa_core_environment.specs.Bodies.{bodies_behind}
use Rattle.tsa_core_environment.proofs.bodies.keep_items.Given as goal

abbrev pub invariant-each : goal.invariant-each
invariant-each l = record {
  typed : first (items_premises l.scope (item_shapes (drop l.item-index l.items))) ≡ None;
  kept : bodies_behind l.scope (item_shapes (drop l.item-index l.items)) l.table ≡ bodies_behind l.fn.before (item_shapes l.items) l.fn.table;
}
