use Rattle.std.proofs.Common.{◌∙◌}
use Rattle.std.proofs.lemmas.Result.{on_ok_weaker, IfOk-weaker}
use Rattle.tsa_core_environment.proofs.BodyLists.{head_told, kept_body, none_kept}
use Rattle.tsa_core_environment.proofs.KnownHeads.{behind_function}
use Rattle.tsa_core_environment.proofs.bodies.keep_function.Goals as goal

pub keep_body-requires : goal.keep_body-requires
keep_body-requires c = record { typed = head_told c.args.scope c.args.function.now c.requires.typed }

pub returns-in-Some-clause-behind : goal.returns-in-Some-clause-behind
returns-in-Some-clause-behind c = IfOk-weaker c.keep_body.result _ _ (λ after h. h ∙ behind_function c.args.scope c.args.function.now) c.keep_body.ensures.behind

pub returns-in-Some-clause-kept : goal.returns-in-Some-clause-kept
returns-in-Some-clause-kept c = on_ok_weaker c.keep_body.result (λ h. h ∙ kept_body c.args.scope c.args.function.now c.in-Some.body c.in-Some.is c.args.table.now) c.keep_body.ensures.kept

pub returns-in-None-clause-behind : goal.returns-in-None-clause-behind
returns-in-None-clause-behind c = IfOk-weaker c.behind_function.result _ _ (λ after h. h ∙ behind_function c.args.scope c.args.function.now) c.behind_function.ensures

pub returns-in-None-clause-kept : goal.returns-in-None-clause-kept
returns-in-None-clause-kept c = IfOk-weaker c.behind_function.result _ _ (λ after h. none_kept c.args.scope c.args.function.now c.in-None.is c.args.table.now) c.behind_function.ensures
