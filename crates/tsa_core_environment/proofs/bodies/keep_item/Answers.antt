use Rattle.std.proofs.lemmas.Result.{IfOk-weaker}
use Rattle.tsa_core_environment.proofs.BodyLists.{other_kept}
use Rattle.tsa_core_environment.proofs.bodies.keep_item.Goals as goal

pub returns-in_default-clause-kept : goal.returns-in_default-clause-kept
returns-in_default-clause-kept c =
    IfOk-weaker c.behind.result _ _ (λ after h. other_kept c.args.scope c.args.item.now c.args.table.now c.in_default.not-Function) c.behind.ensures
