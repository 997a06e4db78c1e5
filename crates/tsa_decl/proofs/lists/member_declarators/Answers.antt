use Rattle.std.proofs.Common.{rules}
use Rattle.tsa_expr.proofs.Answering.{fails_same}
use Rattle.tsa_decl.proofs.MemberLaws.{declarators_name, declarators_rest, declarators_last, declarators_more}
use Rattle.tsa_decl.proofs.lists.member_declarators.Goals as goal

pub returns-in_err-declarator-clause-gives : goal.returns-in_err-declarator-clause-gives
returns-in_err-declarator-clause-gives c = search (rules, declarators_name, fails_same)

pub returns-in_err-declared-clause-gives : goal.returns-in_err-declared-clause-gives
returns-in_err-declared-clause-gives c = search (rules, declarators_rest, fails_same)

pub returns-then-not-declared-clause-gives : goal.returns-then-not-declared-clause-gives
returns-then-not-declared-clause-gives c = search (rules, declarators_last)

pub declarators-preserved : goal.declarators-preserved
declarators-preserved c = (search rules, search (rules, declarators_more))
