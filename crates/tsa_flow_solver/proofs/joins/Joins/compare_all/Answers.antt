use Rattle.std.proofs.Common.{◌≡◌, ◌∙◌, List, length, arith, subst}
use Rattle.tsa_rules.specs.declared.statuses.Statuses.{Statuses}
use Rattle.tsa_flow_solver.specs.Agreeing.{AreArrivalsCompared, IsBlockCompared}
use Rattle.tsa_flow_solver.specs.Rows.{flags_of, lane_of}
use Rattle.tsa_flow_solver.proofs.Comparing.{one_block_more}
use Rattle.tsa_flow_solver.proofs.joins.Joins.compare_all.Goals as goal

pub each-init : goal.each-init
each-init g c = record {
  rows = c.in_ok-compare_entry.ensures.rows;
  wide = c.in_ok-compare_entry.ensures.wide;
  flags = λ lane are less. c.in_ok-compare_entry.ensures.flags lane less;
}

pub each-preserved : goal.each-preserved
each-preserved g c = record {
  rows = ◌∙◌ {A = List (List Statuses)} c.in_ok-compare_block.ensures.rows c.each.invariant.rows;
  wide = record { long = c.in_ok-compare_block.ensures.wide.long ∙ c.each.invariant.wide.long; wide = c.in_ok-compare_block.ensures.wide.wide };
  flags = λ lane are less.
      one_block_more (g.L.Lanes.enters c.args.lanes.now lane) (g.L.Lanes.cases c.args.lanes.now lane) c.args.blocks.now (lane_of c.args.self.now.rows.items lane) c.each.number
      (flags_of c.args.self.now.agreeing.items lane) (flags_of c.each.self.agreeing.items lane) (flags_of c.compare_block.new.self.agreeing.items lane) (c.each.invariant.flags lane are less)
      (subst (λ ys. IsBlockCompared (g.L.Lanes.cases c.args.lanes.now lane) c.args.blocks.now c.each.number (lane_of ys lane) (flags_of c.each.self.agreeing.items lane) (flags_of c.compare_block.new.self.agreeing.items lane))
      c.each.invariant.rows (c.in_ok-compare_block.ensures.flags lane are less));
}

pub returns-clause-flags : goal.returns-clause-flags
returns-clause-flags g c lane are less =
    let past = c.each-test.false in
    let most = c.each.auto.number-end in
    let end = c.len-number-end.ensures in
    let size = c.args.blocks.now.blocks.ok.0 in
    let all : c.each.number ≡ length c.args.blocks.now.blocks.items = omega (arith, past, most, end, size) in
    subst (λ m. AreArrivalsCompared (g.L.Lanes.enters c.args.lanes.now lane) (g.L.Lanes.cases c.args.lanes.now lane) c.args.blocks.now m (lane_of c.args.self.now.rows.items lane)
    (flags_of c.args.self.now.agreeing.items lane) (flags_of c.each.self.agreeing.items lane)) all (c.each.invariant.flags lane are less)
