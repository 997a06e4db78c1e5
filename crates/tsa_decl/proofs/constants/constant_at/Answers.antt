use Rattle.std.proofs.Common.{rules}
use Rattle.tsa_decl.proofs.EnumeratorLaws.{constant_fails, constant_wrong, constant_goes}
use Rattle.tsa_decl.proofs.constants.constant_at.Goals as goal

pub returns-in_err-name-clause-gives : goal.returns-in_err-name-clause-gives
returns-in_err-name-clause-gives c = search (rules, constant_fails)

pub returns-in_err-inner-clause-gives : goal.returns-in_err-inner-clause-gives
returns-in_err-inner-clause-gives c = search (rules, constant_wrong)

pub returns-clause-gives : goal.returns-clause-gives
returns-clause-gives c = search (rules, constant_goes)
