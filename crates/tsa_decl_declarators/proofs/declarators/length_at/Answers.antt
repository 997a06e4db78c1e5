use Rattle.std.proofs.Common.{rules}
use Rattle.tsa_decl_declarators.proofs.DeclaratorLaws.{length_fails, length_goes}
use Rattle.tsa_decl_declarators.proofs.declarators.length_at.Goals as goal

pub returns-in_err-inner-clause-gives : goal.returns-in_err-inner-clause-gives
returns-in_err-inner-clause-gives c = search (rules, length_fails)

pub returns-clause-gives : goal.returns-clause-gives
returns-clause-gives c = search (rules, length_goes)
