use Rattle.std.proofs.Common.{rules}
use Rattle.tsa_expr.proofs.Answering.{fails_same}
use Rattle.tsa_decl.proofs.ParameterLaws.{list_fails, list_last}
use Rattle.tsa_decl.proofs.heads.parameter_list.Goals as goal

pub returns-in_err-inner-clause-gives : goal.returns-in_err-inner-clause-gives
returns-in_err-inner-clause-gives c = search (rules, list_fails, fails_same)

pub returns-in-Close-clause-gives : goal.returns-in-Close-clause-gives
returns-in-Close-clause-gives c = search (rules, list_last)
