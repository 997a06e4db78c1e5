use Rattle.std.proofs.Common.{◌∙◌, sym}
use Rattle.tsa_rules_view.proofs.RuleNumbers.{numbered}
use Rattle.tsa_rules_view.proofs.calls.fails.Goals as goal

pub returns-in-Some-clause-other : goal.returns-in-Some-clause-other
returns-in-Some-clause-other c none = absurd (none c.in-Some.rule (numbered c.args.rule c.in-Some.rule (sym c.rule_of.ensures ∙ c.in-Some.is)))
