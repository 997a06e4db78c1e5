use Rattle.std.proofs.Common.{◌≡◌, subst, sym, true, is_some, Contains}
use Rattle.tsa_flow_solver.specs.Passing.{IsClaimPassed, IsPassed, IsPending}
use Rattle.tsa_flow_solver.specs.Rows.{set_at}
use Rattle.tsa_flow_solver.proofs.Still.{both_passes, claims_pass}
use Rattle.tsa_flow_solver.proofs.passing.pass_row.Goals as goal
use Rattle.tsa_flow_solver.proofs.passing.pass_row.Goals.{then-may_be_pending, else-may_be_pending}

pub returns-clause-each : goal.returns-clause-each
returns-clause-each g c lane point less =
    let x = g.L.Lanes.cases c.args.lanes.now lane c.args.pass.point in
    let o = c.args.pass.outcome in
    let claims = c.claims-claims.result.now in
    let listed : is_some x.mark.claim ≡ true → Contains claims lane = c.claims-claims.ensures.all lane point less in
    let last = c.pass_claims.ensures.each lane less in
    elim c.if-may_be_pending.branch [
      | then-may_be_pending w ↦ both_passes x o claims lane listed (set_at c.args.row.now lane) (set_at c.if-may_be_pending.row lane) (set_at c.pass_claims.new.row lane)
          (subst (λ r. IsPassed x o claims lane (set_at c.args.row.now lane) (set_at r lane)) (sym w.row-is) (w.pass_pending.ensures.each lane less)) last
      | else-may_be_pending w ↦ claims_pass x o claims lane listed (set_at c.args.row.now lane) (set_at c.pass_claims.new.row lane)
          (λ pending. c.may_be_pending.ensures w.if-may_be_pending.false lane (subst (λ r. IsPending r (set_at c.args.row.now lane)) (sym (c.role.ensures lane)) pending))
          (subst (λ r. IsClaimPassed x o claims lane (set_at r lane) (set_at c.pass_claims.new.row lane)) w.row-is last)
    ]
