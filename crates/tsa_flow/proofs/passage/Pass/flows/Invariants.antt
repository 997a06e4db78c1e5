use Rattle.std.proofs.Common.{◌≡◌, None, drop}
use Rattle.tsa_tree.specs.types.Premises as types
use Rattle.tsa_tree.specs.types.Units as typed
use Rattle.tsa_tree.specs.units.Shapes.{item_shapes}
use Rattle.tsa_flow.specs.Units.{AreAhead}
use Rattle.tsa_flow.proofs.passage.Pass.flows.Given as goal

-- the items that are left are typed, and each function is told or has its first body among them
abbrev pub invariant-each : goal.invariant-each
invariant-each l = record {
  typed : types.first (typed.items_premises l.known.here (item_shapes (drop l.item-index l.self.ground.items.now))) ≡ None;
  ahead : AreAhead (item_shapes l.self.ground.items.now) l.known (item_shapes (drop l.item-index l.self.ground.items.now)) l.flows.items;
}
