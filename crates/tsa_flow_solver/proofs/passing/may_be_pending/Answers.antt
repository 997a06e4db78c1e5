use Rattle.std.proofs.Common.{◌∙◌, subst, sym, true≢false}
use Rattle.tsa_flow_solver.specs.Passing.{IsPending}
use Rattle.tsa_flow_solver.specs.Rows.{set_at}
use Rattle.tsa_flow_solver.proofs.Pending.{unseen_among}
use Rattle.tsa_flow_solver.proofs.passing.may_be_pending.Goals as goal

pub returns-in-Tests : goal.returns-in-Tests
returns-in-Tests c never lane unseen =
    let set = set_at c.args.row.now lane in
    let told = subst (λ r. IsPending r set) c.in-Tests.is unseen in
    true≢false (sym (c.is_unseen.ensures.1 (unseen_among c.in-Tests.test.asked set c.all.result (c.all.ensures lane) told)) ∙ never)
