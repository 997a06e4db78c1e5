use Rattle.tsa_place_layout.proofs.WayLists.{outward_next, outward_none, outward_end}
use Rattle.tsa_place_layout.proofs.layout.Layout.way_to.Goals as goal

pub returns-in-None : goal.returns-in-None
returns-in-None c = outward_none c.args.self.now c.outward.way.items _ c.outward.left c.outward.at c.in-None.is c.outward.invariant.told

pub outward-preserved : goal.outward-preserved
outward-preserved c = record {
  told = outward_next c.args.self.now c.outward.way.items _ c.outward.left c.in-Some.placed c.push.new.self.items c.owner-at.result c.outward.at c.in-Some.is c.outward-test.true
      c.in_ok-push-in-Some.ensures.items c.owner-at.ensures c.outward.invariant.told;
}

pub returns : goal.returns
returns c = outward_end c.args.self.now c.outward.way.items _ c.outward.left c.outward.at c.outward-test.false c.outward.invariant.told
