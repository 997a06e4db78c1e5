use Rattle.std.proofs.Common.{◌∙◌, ◌≡◌, ◌<◌, ℕ, ap, arith, inl, inr, length, length-set, get_or-set_same, get_or-set_other, subst, sym}
use Rattle.std.proofs.Common.{true≢false}
use Rattle.tsa_flow_solver.specs.Passing.{IsPassed, IsPending, Passes, passes, stays}
use Rattle.tsa_flow_solver.specs.Rows.{no_statuses, set_at}
use Rattle.tsa_flow_solver.proofs.Pending.{done_on, rest_on}
use Rattle.tsa_flow_solver.proofs.Still.{is_among, not_among}
use Rattle.tsa_flow_solver.proofs.passing.pass_pending.Goals as goal
use Rattle.tsa_flow_solver.proofs.passing.pass_pending.Goals.{then-is_pending+then-not-is_among, else-is_pending}
use Rattle.tsa_flow_solver.proofs.passing.pass_pending.Goals.{else-is_pending-via-then-is_pending+else-not-is_among}
use Rattle.tsa_flow_solver.proofs.passing.pass_pending.Goals.{else-is_pending-via-else-is_pending}

pub lanes-preserved : goal.lanes-preserved
lanes-preserved g c = record {
  long = long ∙ c.lanes.invariant.long;
  role = c.role-role.ensures;
  done = done_on (λ l. g.L.Lanes.cases c.args.lanes.now l c.args.pass.point) c.args.pass.outcome c.args.claims.now c.args.row.now c.lanes.row c.if-is_pending.row c.lanes.lane c.lanes.invariant.done
      c.lanes.invariant.rest elsewhere here;
  rest = rest_on (λ l. g.L.Lanes.cases c.args.lanes.now l c.args.pass.point) c.args.pass.outcome c.args.claims.now c.args.row.now c.lanes.row c.if-is_pending.row c.lanes.lane c.lanes.invariant.done
      c.lanes.invariant.rest elsewhere here;
}
  where
    inside : c.lanes.lane < length c.lanes.row
    inside = let wide = c.requires in let same = c.lanes.invariant.long in omega (arith, wide, same, c.lanes-test.true, c.lanes.auto.lane-end, c.count-lane-end.ensures)

    long : length c.if-is_pending.row ≡ length c.lanes.row
    long = elim c.if-is_pending.branch [
      | then-is_pending+then-not-is_among w ↦ ap length (w.row-is ∙ w.put.ensures) ∙ length-set c.lanes.row c.lanes.lane w.pass_in.result
      | else-is_pending w ↦ ap length w.row-is
    ]

    elsewhere : (l : ℕ) → (l ≡ c.lanes.lane → ⊥) → set_at c.if-is_pending.row l ≡ set_at c.lanes.row l
    elsewhere l other = elim c.if-is_pending.branch [
      | then-is_pending+then-not-is_among w ↦ ap (λ r. set_at r l) (w.row-is ∙ w.put.ensures) ∙ get_or-set_other c.lanes.row c.lanes.lane l w.pass_in.result no_statuses other
      | else-is_pending w ↦ ap (λ r. set_at r l) w.row-is
    ]

    before : c.at-set.result ≡ set_at c.args.row.now c.lanes.lane
    before = c.at-set.ensures ∙ c.lanes.invariant.rest c.lanes.lane (omega arith)

    here : IsPassed (g.L.Lanes.cases c.args.lanes.now c.lanes.lane c.args.pass.point) c.args.pass.outcome c.args.claims.now c.lanes.lane (set_at c.args.row.now c.lanes.lane) (set_at c.if-is_pending.row c.lanes.lane)
    here = elim c.if-is_pending.branch [
      | then-is_pending+then-not-is_among w ↦ passes (not_among c.args.claims.now c.lanes.lane (sym w.is_among.ensures ∙ w.if-not-is_among.true))
          (subst (λ s. Passes (g.L.Lanes.cases c.args.lanes.now c.lanes.lane c.args.pass.point) c.args.pass.outcome s (set_at c.if-is_pending.row c.lanes.lane)) before
          (subst (Passes (g.L.Lanes.cases c.args.lanes.now c.lanes.lane c.args.pass.point) c.args.pass.outcome c.at-set.result)
          (sym (ap (λ r. set_at r c.lanes.lane) (w.row-is ∙ w.put.ensures) ∙ get_or-set_same c.lanes.row c.lanes.lane w.pass_in.result no_statuses inside)) w.pass_in.ensures))
      | else-is_pending w ↦ stays (elim w.else-is_pending.branch [
        | else-is_pending-via-then-is_pending+else-not-is_among x ↦ inl (is_among c.args.claims.now c.lanes.lane (sym x.is_among.ensures ∙ x.if-not-is_among.false))
        | else-is_pending-via-else-is_pending x ↦ inr (λ pending. true≢false (sym (c.is_pending.ensures.1
            (subst (IsPending c.role-role.result) (sym before) (subst (λ r. IsPending r (set_at c.args.row.now c.lanes.lane)) (sym (c.role-role.ensures c.lanes.lane)) pending))) ∙ x.if-is_pending.false))
      ]) (ap (λ r. set_at r c.lanes.lane) w.row-is ∙ c.lanes.invariant.rest c.lanes.lane (omega arith))
    ]
