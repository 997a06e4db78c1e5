use Rattle.tsa_rules.proofs.CaseFailures.{fails_is}
use Rattle.tsa_rules.proofs.case.Case.fails.Goals as goal

pub returns-clause-is : goal.returns-clause-is
returns-clause-is c = λ u f p path is. fails_is c.args.rule u f p path c.args.self c.args.status c.breaks.result c.breaks.ensures is
