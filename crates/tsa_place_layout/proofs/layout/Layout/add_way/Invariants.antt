use Rattle.std.proofs.Common.{◌≡◌, ◌++◌, reverse}
use Rattle.tsa_place_model.specs.Calls.{around, text_along, text_of}
use Rattle.tsa_place_layout.proofs.layout.Layout.add_way.Given as goal

abbrev pub invariant-outward : goal.invariant-outward
invariant-outward l = record { told : l.text.items ++ reverse (text_along l.self (around l.self l.left l.at)) ≡ l.fn.text.items ++ reverse (text_of l.self l.place) }

abbrev pub decreases-outward : goal.decreases-outward
decreases-outward l = l.left
