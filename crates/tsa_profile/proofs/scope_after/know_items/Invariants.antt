use Rattle.std.proofs.Common.{◌≡◌, drop, None}
use Rattle.tsa_tree.specs.types.Premises.{first}
use Rattle.tsa_tree.specs.types.Units.{items_premises}
use Rattle.tsa_tree.specs.units.Shapes.{item_shapes}
use Rattle.tsa_profile.specs.Arguments.{behind_items}
use Rattle.tsa_profile.proofs.scope_after.know_items.Given as goal

abbrev pub invariant-each : goal.invariant-each
invariant-each l = record {
  typed : first (items_premises l.scope (item_shapes (drop l.item-index l.items))) ≡ None;
  known : behind_items l.scope (item_shapes (drop l.item-index l.items)) ≡ behind_items l.fn.scope (item_shapes l.items);
}
