use Rattle.std.proofs.Common.{◌∙◌, ◌≡◌, ◌<◌, ◌↔◌, ap, arith, length, length-set, get_or-set_same, get_or-set_other, subst, sym}
use Rattle.std.proofs.Math.Decide.{ℕ_discrete}
use Rattle.tsa_flow_solver.specs.Rows.{no_statuses, set_at}
use Rattle.tsa_rules.specs.Sets.{Has}
use Rattle.tsa_flow_solver.proofs.front.entries.Goals as goal

pub lanes-preserved : goal.lanes-preserved
lanes-preserved g c = record {
  long = ap length c.put.ensures ∙ (length-set c.lanes.row c.lanes.lane c.only.result ∙ c.lanes.invariant.long);
  only = λ lane less s. elim (ℕ_discrete lane c.lanes.lane) [
    | yes e ↦ subst (λ n. Has (set_at c.put.new.self n) s ↔ (s ≡ g.L.Lanes.enters c.args.lanes.now n)) (sym e)
        (subst (λ t. Has t s ↔ (s ≡ g.L.Lanes.enters c.args.lanes.now c.lanes.lane)) (sym (ap (λ r. set_at r c.lanes.lane) c.put.ensures ∙ get_or-set_same c.lanes.row c.lanes.lane c.only.result no_statuses inside))
        (subst (λ e. Has c.only.result s ↔ (s ≡ e)) c.entry.ensures.entry (c.only.ensures s)))
    | no other ↦ subst (λ t. Has t s ↔ (s ≡ g.L.Lanes.enters c.args.lanes.now lane)) (sym (ap (λ r. set_at r lane) c.put.ensures ∙ get_or-set_other c.lanes.row c.lanes.lane lane c.only.result no_statuses other))
        (c.lanes.invariant.only lane (omega (arith, less, other)) s)
  ];
}
  where
    inside : c.lanes.lane < length c.lanes.row
    inside = let long = c.lanes.invariant.long in omega (arith, long, c.lanes-test.true, c.lanes.auto.lane-end, c.count-lane-end.ensures)

pub returns-clause-only : goal.returns-clause-only
returns-clause-only g c lane less s = c.lanes.invariant.only lane (omega (arith, less, c.lanes-test.false, c.lanes.auto.lane-end, c.count-lane-end.ensures)) s
