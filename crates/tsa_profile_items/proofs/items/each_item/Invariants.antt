use Rattle.std.proofs.Common.{◌≡◌, [], None, drop}
use Rattle.tsa_profile_accesses.specs.Premises.{first}
use Rattle.tsa_tree.specs.types.Premises as types
use Rattle.tsa_tree.specs.types.Units as stated
use Rattle.tsa_tree.specs.units.Shapes.{item_shapes}
use Rattle.tsa_profile_context.specs.Judging.{behind_all, outset_of, unit_at}
use Rattle.tsa_profile_context.specs.Units.{items_premises}
use Rattle.tsa_profile_items.proofs.items.each_item.Given as goal

-- what is left to ask is what decides, and what is known behind it is what is known behind all
abbrev pub invariant-each : goal.invariant-each
invariant-each l = record {
  outside : l.known.here.owned ≡ [];
  typed : types.first (stated.items_premises l.known.here (item_shapes (drop l.next-index l.ground.items.now))) ≡ None;
  judged : first (items_premises (unit_at l.ground) l.known.attributes l.known.here (item_shapes (drop l.next-index l.ground.items.now)))
      ≡ first (items_premises (unit_at l.ground) [] (stated.outset (item_shapes l.ground.items.now)) (item_shapes l.ground.items.now));
  behind : behind_all (unit_at l.ground) l.known (item_shapes (drop l.next-index l.ground.items.now))
      ≡ behind_all (unit_at l.ground) (outset_of (unit_at l.ground)) (item_shapes l.ground.items.now);
}
