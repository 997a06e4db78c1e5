use Rattle.std.proofs.Common.{◌≡◌, ◌++◌, drop}
use Rattle.tsa_tree.specs.units.Shapes.{item_shapes}
use Rattle.tsa_tree.specs.types.Units.{locks_of}
use Rattle.tsa_types_scope.proofs.beginning.locks_of.Given as goal

abbrev pub invariant-each : goal.invariant-each
invariant-each l = l.locks.items ++ locks_of (item_shapes (drop l.item-index l.items)) ≡ locks_of (item_shapes l.items)
