use Rattle.std.proofs.Common.{◌∙◌, sym, subst, true≢false}
use Rattle.tsa_flow_solver.specs.Passing.{IsPending}
use Rattle.tsa_flow_solver.proofs.Still.{kept_passes, not_among, unlisted}
use Rattle.tsa_flow_solver.proofs.passing.step_in.Goals as goal

pub returns : goal.returns
returns g c point less =
    let x = g.L.Lanes.cases c.args.lanes.now c.args.lane c.args.pass.point in
    kept_passes x c.args.pass.outcome c.args.set
    (unlisted x c.claims.result.now c.args.lane (c.claims.ensures.all c.args.lane point less) (not_among c.claims.result.now c.args.lane (sym c.is_among.ensures ∙ c.if-is_among.false)))
    (λ pending. true≢false (sym (c.is_pending.ensures.1 (subst (λ r. IsPending r c.args.set) (sym (c.role.ensures c.args.lane)) pending)) ∙ c.if-is_pending.false))
