use Rattle.std.proofs.Common.{rules}
use Rattle.tsa_expr.proofs.Answering.{fails_same}
use Rattle.tsa_decl_declarators.proofs.LocalLaws.{variables_fail, variables_single}
use Rattle.tsa_decl_declarators.proofs.locals.variables.Goals as goal

pub returns-in_err-local-clause-gives : goal.returns-in_err-local-clause-gives
returns-in_err-local-clause-gives c = search (rules, variables_fail, fails_same)

pub returns-then-single-clause-gives : goal.returns-then-single-clause-gives
returns-then-single-clause-gives c = search (rules, variables_single)
