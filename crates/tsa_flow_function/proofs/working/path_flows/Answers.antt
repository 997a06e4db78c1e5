use Rattle.std.proofs.Common.{◌∙◌, ◌≡◌, [], List, ℕ, ap, length, replicate, subst, sym}
use Rattle.tsa_flow_function.specs.Claims.{noted}
use Rattle.tsa_flow_function.specs.ClaimLanes.{AreLanesAt}
use Rattle.tsa_rules_table.specs.Rows.{rows_in}
use Rattle.tsa_flow_function.specs.Flows.{AreReachedIn}
use Rattle.tsa_flow_function.specs.Lanes.{AreAssigned, AreClaimed}
use Rattle.tsa_flow_function.proofs.Assigning.{are_claimed, are_idle}
use Rattle.tsa_flow_function.proofs.working.path_flows.Goals as goal

pub invariant_of-lanes : goal.invariant_of-lanes
invariant_of-lanes c = record {
  counted = c.in_ok-count.ensures ∙ ap length (c.deref.ensures.value ∙ sym c.deref-3.ensures.value);
  claimed = subst (λ caps. AreClaimed c.args.view.now caps c.in_ok-claims.claims) (sym c.deref-3.ensures.value)
      (are_claimed c.args.view.now caps c.in_ok-by_path.by_path c.in_ok-claims.claims are assigned.there listed);
}
  where
    caps : List ℕ
    caps = c.in_ok-table.table.caps.items

    listed : c.in_ok-by_path.by_path ≡ noted c.args.view.now.notes.marks.marks (replicate (length c.args.view.now.numbers) [])
    listed = c.in_ok-by_path.ensures ∙ ap (λ m. noted m.marks (replicate c.caps.result [])) c.marks.ensures ∙ ap (λ k. noted c.args.view.now.notes.marks.marks (replicate k [])) c.caps.ensures

    assigned : AreAssigned c.args.view.now caps c.in_ok-table.table.numbers.items
    assigned = c.in_ok-table.ensures (are_idle c.args.view.now c.in_ok-by_path.by_path listed)

    are : AreLanesAt (rows_in c.args.view.now.notes.marks) c.in_ok-by_path.by_path caps c.in_ok-claims.claims
    are = subst (λ n. AreLanesAt n c.in_ok-by_path.by_path caps c.in_ok-claims.claims) (c.rows.ensures ∙ ap rows_in c.marks-2.ensures)
        (subst (λ xs. AreLanesAt c.rows.result c.in_ok-by_path.by_path xs c.in_ok-claims.claims) c.deref-2.ensures.value c.in_ok-claims.ensures)

pub returns-clause-flows : goal.returns-clause-flows
returns-clause-flows c es are = record {
  reached = subst (λ caps. AreReachedIn es c.args.view.now c.args.blocks.now caps c.in_ok-reached.reached) c.deref-3.ensures.value (c.in_ok-reached.ensures es are);
  assigned = c.in_ok-table.ensures (are_idle c.args.view.now c.in_ok-by_path.by_path listed);
}
  where
    listed : c.in_ok-by_path.by_path ≡ noted c.args.view.now.notes.marks.marks (replicate (length c.args.view.now.numbers) [])
    listed = c.in_ok-by_path.ensures ∙ ap (λ m. noted m.marks (replicate c.caps.result [])) c.marks.ensures ∙ ap (λ k. noted c.args.view.now.notes.marks.marks (replicate k [])) c.caps.ensures
