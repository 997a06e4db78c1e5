use Rattle.std.proofs.Common.{◌≡◌, slice_get}
use Rattle.tsa_tree.specs.units.Limits.{past_functions}
use Rattle.tsa_tree.specs.units.Shapes.{item_shapes}
use Rattle.tsa_unit.proofs.LimitLaws.{functions_from}
use Rattle.tsa_unit.proofs.limits.past_functions.Given as goal

abbrev pub invariant-items : goal.invariant-items
invariant-items l = past_functions (item_shapes l.items.items) ≡ slice_get (functions_from l.item-index l.items.items) l.left
