use Rattle.std.proofs.Common.{ap, arith, length, subst, sym}
use Rattle.tsa_graph.specs.Placing.{AreSmall}
use Rattle.tsa_graph.proofs.InARow.{are_blocks, are_formed, are_small, blocks_by, blocks_inside, exits_by, froms_by, froms_inside}
use Rattle.tsa_graph.proofs.InARow.{placed_by}
use Rattle.tsa_graph.proofs.rows.blocks_of.Goals as goal

pub places_of-requires : goal.places_of-requires
places_of-requires c =
    subst (AreSmall c.args.points) (sym c.deref.ensures.value) (are_small c.args.points c.requires.0 c.args.graph c.requires.1 c.requires.2)

pub exits_of-requires-clause-count : goal.exits_of-requires-clause-count
exits_of-requires-clause-count c =
    let s = (are_small c.args.points c.requires.0 c.args.graph c.requires.1 c.requires.2).count in
    let r = c.ranges.points.fits in
    let d = ap length c.deref-2.ensures.value in omega (arith, s, r, d)

pub exits_of-requires-clause-from : goal.exits_of-requires-clause-from
exits_of-requires-clause-from c =
    froms_by c.args.points c.args.graph c.deref-2.result.now c.in_ok-places.places.items c.deref-3.result.now c.deref-2.ensures.value c.deref-3.ensures.value
    c.in_ok-places.ensures.size (froms_inside c.args.points c.requires.0 c.args.graph c.requires.1 c.requires.2)

pub exits_of-requires-clause-placed : goal.exits_of-requires-clause-placed
exits_of-requires-clause-placed c =
    let places = c.in_ok-places.places.items in
    let placed = placed_by c.args.graph c.deref.result.now places c.deref.ensures.value c.in_ok-places.ensures.placed in
    blocks_by c.args.graph c.deref-2.result.now places c.deref-3.result.now c.deref-2.ensures.value c.deref-3.ensures.value
    (blocks_inside c.args.points c.requires.0 c.args.graph c.requires.1 c.requires.2 places c.in_ok-places.ensures.size placed)

pub invariant_of-result : goal.invariant_of-result
invariant_of-result c =
    let places = c.in_ok-places.places.items in
    let exits = c.in_ok-exits.exits in
    let placed = placed_by c.args.graph c.deref.result.now places c.deref.ensures.value c.in_ok-places.ensures.placed in
    let left = exits_by c.args.graph c.deref-2.result.now places c.deref-3.result.now exits c.deref-2.ensures.value c.deref-3.ensures.value c.in_ok-exits.ensures in
    record {
      formed = are_formed c.args.points c.requires.0 c.args.graph c.requires.1 c.requires.2 places c.in_ok-places.ensures.size placed exits left c.in_ok-rows.rows.items
          c.in_ok-rows.ensures;
    }

pub returns : goal.returns
returns c = λ es graph between.
    let places = c.in_ok-places.places.items in
    let exits = c.in_ok-exits.exits in
    let placed = placed_by c.args.graph c.deref.result.now places c.deref.ensures.value c.in_ok-places.ensures.placed in
    let left = exits_by c.args.graph c.deref-2.result.now places c.deref-3.result.now exits c.deref-2.ensures.value c.deref-3.ensures.value c.in_ok-exits.ensures in
    are_blocks c.args.points es c.args.graph graph between _ exits c.in_ok-places.ensures.size placed left c.in_ok-rows.ensures
