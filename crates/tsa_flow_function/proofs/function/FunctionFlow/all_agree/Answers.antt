use Rattle.std.proofs.Common.{length}
use Rattle.tsa_rules.specs.Cases.{entry_in}
use Rattle.tsa_rules.specs.Points.{edges_of, points_of}
use Rattle.tsa_rules_view.specs.Views.{case_in, lock_in}
use Rattle.tsa_flow_function.specs.Lanes.{cap_of}
use Rattle.tsa_flow_function.proofs.Flowing.{agree_in_lanes}
use Rattle.tsa_flow_function.proofs.function.FunctionFlow.all_agree.Goals as goal

pub returns : goal.returns
returns c u f paths number w is less there all =
    let v = c.args.self.now.view in
    let caps = c.args.self.now.paths.caps.items in
    agree_in_lanes u f paths c.args.self.now is number w there c.args.point
    (λ lane inside. c.all_agree.ensures (length (points_of f)) (edges_of f) (length caps) (λ l. entry_in (lock_in v (cap_of caps l))) (λ l p. case_in v p (cap_of caps l)) lane is.blocks is.flows.reached less inside all)
