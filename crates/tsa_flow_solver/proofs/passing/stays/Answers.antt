use Rattle.std.proofs.Common.{◌∙◌, ◌≡◌, arith, length, sym, subst, eqb-true}
use Rattle.std.proofs.lemmas.Bool.{not-true}
use Rattle.tsa_flow_solver.specs.Passing.{IsPending}
use Rattle.tsa_flow_solver.specs.Rows.{set_at}
use Rattle.tsa_flow_solver.proofs.Still.{kept_passes, unlisted}
use Rattle.tsa_flow_solver.proofs.passing.stays.Goals as goal

pub returns : goal.returns
returns g c still lane outcome point less =
    let x = g.L.Lanes.cases c.args.lanes.now lane c.args.point in
    let none : length c.claims.result.now ≡ 0 = eqb-true (length c.claims.result.now) 0 (sym c.is_empty.ensures ∙ c.if-not-is_empty.false) in
    kept_passes x outcome (set_at c.args.row.now lane) (unlisted x c.claims.result.now lane (c.claims.ensures.all lane point less) (λ m. absurd (omega (arith, m.1, none))))
    (λ pending. c.may_be_pending.ensures (not-true c.may_be_pending.result still) lane (subst (λ r. IsPending r (set_at c.args.row.now lane)) (sym (c.role.ensures lane)) pending))
