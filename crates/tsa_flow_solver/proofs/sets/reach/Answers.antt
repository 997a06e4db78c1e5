use Rattle.std.proofs.Common.{subst}
use Rattle.tsa_flow_solver.specs.Stages.{AreStaged}
use Rattle.tsa_flow_solver.proofs.Settling.{points_of_blocks}
use Rattle.tsa_flow_solver.proofs.sets.reach.Goals as goal

pub returns : goal.returns
returns g c es are = record {
  joins = λ lane less. c.in_ok-joins.ensures.joined es lane are less;
  stages = λ lane less. subst (λ xs. AreStaged (g.L.Lanes.cases c.args.lanes.now lane) c.args.blocks.now.blocks.items xs lane c.in_ok-stages.stages) c.deref.ensures.value
      (c.in_ok-stages.ensures lane (points_of_blocks (g.L.Lanes.points c.args.lanes.now) es c.args.blocks.now are) less);
}
