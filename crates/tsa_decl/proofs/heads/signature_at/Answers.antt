use Rattle.std.proofs.Common.{rules}
use Rattle.tsa_decl.proofs.HeadLaws.{signature_unopened, signature_fails, signature_wrong, signature_goes}
use Rattle.tsa_decl.proofs.heads.signature_at.Goals as goal

pub returns-in_err-inside-clause-gives : goal.returns-in_err-inside-clause-gives
returns-in_err-inside-clause-gives c = search (rules, signature_unopened)

pub returns-in_err-params-clause-gives : goal.returns-in_err-params-clause-gives
returns-in_err-params-clause-gives c = search (rules, signature_fails)

pub returns-in_err-attrs-clause-gives : goal.returns-in_err-attrs-clause-gives
returns-in_err-attrs-clause-gives c = search (rules, signature_wrong)

pub returns-clause-gives : goal.returns-clause-gives
returns-clause-gives c = search (rules, signature_goes)
