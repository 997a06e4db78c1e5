use Rattle.std.proofs.Common.{◌∙◌, sym}
use Rattle.std.proofs.lemmas.Result.{IfOk-weaker}
use Rattle.tsa_profile_accesses.specs.declared.premise.ProfileCode.TheVariants.{PF7}
use Rattle.tsa_profile_declarations.proofs.Firsts.{passed_first, told_first}
use Rattle.tsa_profile_declarations.proofs.attributes.Before.attribute.Goals as goal

pub returns-then-misfits-clause-failure : goal.returns-then-misfits-clause-failure
returns-then-misfits-clause-failure c = told_first PF7 c.args.attr.now.span _ _ (sym c.misfits.ensures ∙ c.if-misfits.true)

pub returns-clause-failure : goal.returns-clause-failure
returns-clause-failure c =
    IfOk-weaker c.arguments.result _ _ (λ failure h. h ∙ passed_first PF7 c.args.attr.now.span _ _ (sym c.misfits.ensures ∙ c.if-misfits.false)) c.arguments.ensures.failure
