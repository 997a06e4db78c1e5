use Rattle.std.proofs.Common.{◌≡◌, ◌++◌, drop}
use Rattle.tsa_core_program.specs.Walks.{counts_in}
use Rattle.tsa_tree.specs.units.Shapes.{item_shapes}
use Rattle.tsa_core_program.proofs.counts.counts_of.Given as goal

-- what was counted, and what the items that are left add to it
abbrev pub invariant-each : goal.invariant-each
invariant-each l = l.counts.items ++ counts_in (item_shapes (drop l.item-index l.items)) ≡ counts_in (item_shapes l.items)
