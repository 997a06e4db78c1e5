use Rattle.std.proofs.Common.{rules}
use Rattle.tsa_decl_declarators.proofs.LocalLaws.{locals_type, locals_fail, locals_go}
use Rattle.tsa_decl_declarators.proofs.locals.read_locals.Goals as goal

pub returns-in_err-specified-clause-gives : goal.returns-in_err-specified-clause-gives
returns-in_err-specified-clause-gives c = search (rules, locals_type)

pub returns-in_err-next-clause-gives : goal.returns-in_err-next-clause-gives
returns-in_err-next-clause-gives c = search (rules, locals_fail)

pub returns-clause-gives : goal.returns-clause-gives
returns-clause-gives c = search (rules, locals_go)
