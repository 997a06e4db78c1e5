use Rattle.std.proofs.Common.{◌≡◌, [], drop}
use Rattle.tsa_tree.specs.units.Shapes.{item_shapes}
use Rattle.tsa_tree.specs.types.Units.{tags_behind}
use Rattle.tsa_types_scope.proofs.beginning.tags_of.Given as goal

abbrev pub invariant-each : goal.invariant-each
invariant-each l = tags_behind l.tags l.number (item_shapes (drop l.item-index l.items)) ≡ tags_behind [] 0 (item_shapes l.items)
