use Rattle.std.proofs.Common.{◌≡◌, None, drop}
use Rattle.tsa_tree.specs.types.Premises as types
use Rattle.tsa_tree.specs.types.Units as typed
use Rattle.tsa_tree.specs.units.Shapes.{item_shapes}
use Rattle.tsa_profile.specs.Judging.{unit_at}
use Rattle.tsa_rules_bodies.specs.Sites.{site_among, site_of}
use Rattle.tsa_rules_bodies.proofs.search.seek.Given as goal

-- the body is among the items that are left
abbrev pub invariant-each : goal.invariant-each
invariant-each l = record {
  typed : types.first (typed.items_premises l.known.here (item_shapes (drop l.item-index l.ground.items.now))) ≡ None;
  left : site_among (unit_at l.ground) l.known.attributes l.known.here (item_shapes (drop l.item-index l.ground.items.now)) l.function
      ≡ site_of (item_shapes l.ground.items.now) l.function;
}
