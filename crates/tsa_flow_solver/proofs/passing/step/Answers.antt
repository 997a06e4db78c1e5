use Rattle.std.proofs.Common.{subst, sym, ◌<◌}
use Rattle.tsa_flow_solver.specs.Rows.{set_at}
use Rattle.tsa_flow_solver.proofs.Carrying.{step_of}
use Rattle.tsa_flow_solver.proofs.passing.step.Goals as goal

pub returns-clause-each : goal.returns-clause-each
returns-clause-each g c lane point less =
    step_of (g.L.Lanes.cases c.args.lanes.now lane) c.args.block.now c.args.index c.pass_at.result.point c.pass_at.result.outcome (set_at c.args.row.now lane) (set_at c.pass_row.new.row lane)
    c.pass_at.ensures.point c.pass_at.ensures.outcome (c.pass_row.ensures.each lane (subst (λ p. p < g.L.Lanes.points c.args.lanes.now) (sym c.pass_at.ensures.point) point) less)
