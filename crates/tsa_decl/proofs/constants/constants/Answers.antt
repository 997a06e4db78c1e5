use Rattle.std.proofs.Common.{rules}
use Rattle.tsa_expr.proofs.Answering.{fails_same}
use Rattle.tsa_decl.proofs.EnumeratorLaws.{constants_fail, constants_last, constants_trail}
use Rattle.tsa_decl.proofs.constants.constants.Goals as goal

pub returns-in_err-inner-clause-gives : goal.returns-in_err-inner-clause-gives
returns-in_err-inner-clause-gives c = search (rules, constants_fail, fails_same)

pub returns-in-CloseBrace-clause-gives : goal.returns-in-CloseBrace-clause-gives
returns-in-CloseBrace-clause-gives c = search (rules, constants_last)

pub returns-then-is_close_brace_at-clause-gives : goal.returns-then-is_close_brace_at-clause-gives
returns-then-is_close_brace_at-clause-gives c = search (rules, constants_trail)
