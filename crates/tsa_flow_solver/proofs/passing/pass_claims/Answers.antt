use Rattle.std.proofs.Common.{◌∙◌, ap, get_or, length, length-set, refl, subst}
use Rattle.std.proofs.lemmas.List.{take_all}
use Rattle.tsa_flow_solver.specs.Passing.{IsClaimPassed, Passes}
use Rattle.tsa_flow_solver.specs.Rows.{set_at}
use Rattle.tsa_flow_solver.proofs.Still.{claim_on}
use Rattle.tsa_flow_solver.proofs.passing.pass_claims.Goals as goal

pub claims-preserved : goal.claims-preserved
claims-preserved g c =
    let at = get_or c.args.claims.now c.claims.lane-index 0 in
    record {
      long = ap length c.put.ensures ∙ (length-set c.claims.row at c.pass_in-set.result ∙ c.claims.invariant.long);
      each = claim_on (g.L.Lanes.count c.args.lanes.now) (g.L.Lanes.points c.args.lanes.now) (g.L.Lanes.cases c.args.lanes.now) c.args.pass.point c.args.pass.outcome c.args.claims.now c.requires.rising
          c.claims.lane-index c.claims-test.true c.args.row.now c.claims.row c.put.new.self (c.claims.invariant.long ∙ c.requires.wide) c.claims.invariant.each at refl c.pass_in-set.result
          (subst (λ s. Passes (g.L.Lanes.cases c.args.lanes.now at c.args.pass.point) c.args.pass.outcome s c.pass_in-set.result) c.at.ensures c.pass_in-set.ensures) c.put.ensures;
    }

pub returns-clause-each : goal.returns-clause-each
returns-clause-each g c lane less =
    subst (λ xs. IsClaimPassed (g.L.Lanes.cases c.args.lanes.now lane c.args.pass.point) c.args.pass.outcome xs lane (set_at c.args.row.now lane) (set_at c.claims.row lane))
    (take_all c.claims.lane-index c.args.claims.now c.claims-test.false) (c.claims.invariant.each lane less)
