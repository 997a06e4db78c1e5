use Rattle.std.proofs.Common.{◌∙◌, All, subst, take_all}
use Rattle.tsa_graph.specs.Placing.{IsPlaced}
use Rattle.tsa_graph.proofs.Standing.{next_block}
use Rattle.tsa_graph.proofs.places.places_of.Goals as goal

pub each-preserved : goal.each-preserved
each-preserved c =
    let p = c.place_block.ensures in
    record {
      size = p.size ∙ c.each.invariant.size;
      placed = next_block c.args.blocks.now c.each.number c.index-blocks-number.result c.each.places.items c.place_block.new.places.items c.each-test.true c.index-blocks-number.is
          c.each.invariant.placed p;
    }

pub returns-clause-placed : goal.returns-clause-placed
returns-clause-placed c =
    subst (All (λ b. All (IsPlaced c.args.blocks.now c.each.places.items) b.points.items)) (take_all c.each.number c.args.blocks.now c.each-test.false) c.each.invariant.placed
