use Rattle.std.proofs.Common.{◌≡◌, ◌++◌, drop}
use Rattle.tsa_rules_view.specs.Kinds.{kinds_of}
use Rattle.tsa_core.specs.Programs.{lock_kinds}
use Rattle.tsa_tree.specs.units.Shapes.{item_shapes}
use Rattle.tsa_rules_view.proofs.kind.lock_kinds.Given as goal

abbrev pub invariant-each : goal.invariant-each
invariant-each l = kinds_of l.kinds.items ++ lock_kinds (item_shapes (drop l.item-index l.items)) ≡ lock_kinds (item_shapes l.items)
