use Rattle.tsa_place_layout.proofs.WayLists.{turned_next, turned_none, turned_out}
use Rattle.tsa_place_layout.proofs.layout.Layout.add_way.Goals as goal

pub returns-in-None : goal.returns-in-None
returns-in-None c = turned_none c.args.self.now c.outward.text.items _ c.outward.left c.outward.at c.in-None.is c.outward.invariant.told

pub outward-preserved : goal.outward-preserved
outward-preserved c = record {
  told = turned_next c.args.self.now c.outward.text.items _ c.outward.left c.in-Some.placed c.add_turned.new.text.items c.owner-at.result c.outward.at c.in-Some.is c.outward-test.true
      c.in_ok-add_turned-in-Some.ensures c.owner-at.ensures c.outward.invariant.told;
}

pub returns : goal.returns
returns c = turned_out c.args.self.now c.outward.text.items _ c.outward.left c.outward.at c.outward-test.false c.outward.invariant.told
