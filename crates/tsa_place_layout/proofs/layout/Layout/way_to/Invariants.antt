use Rattle.std.proofs.Common.{◌≡◌, ◌++◌}
use Rattle.tsa_place_model.specs.Calls.{around, way_to}
use Rattle.tsa_place_layout.proofs.layout.Layout.way_to.Given as goal

abbrev pub invariant-outward : goal.invariant-outward
invariant-outward l = record { told : l.way.items ++ around l.self l.left l.at ≡ way_to l.self l.place }

abbrev pub decreases-outward : goal.decreases-outward
decreases-outward l = l.left
