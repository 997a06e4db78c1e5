use Rattle.std.proofs.Common.{◌≡◌}
use Rattle.tsa_tree.specs.units.Limits.{past_points}
use Rattle.tsa_tree.specs.units.Shapes.{item_shapes}
use Rattle.tsa_unit.proofs.LimitLaws.{points_from}
use Rattle.tsa_unit.proofs.limits.past_points.Given as goal

abbrev pub invariant-items : goal.invariant-items
invariant-items l = past_points (item_shapes l.items.items) ≡ points_from l.item-index l.items.items
