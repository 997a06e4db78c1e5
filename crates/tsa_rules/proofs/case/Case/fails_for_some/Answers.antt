use Rattle.std.proofs.Common.{sym, ◌∙◌}
use Rattle.tsa_rules.specs.Cases.{fails_in}
use Rattle.tsa_rules.proofs.Members.{inside_on, failed_on}
use Rattle.tsa_rules.proofs.case.Case.fails_for_some.Goals as goal

pub members-preserved : goal.members-preserved
members-preserved c = record {
  inside = inside_on c.args.before c.members.left c.take_first.new.self c.in-Some.status c.in-Some.ensures c.members.invariant.inside;
  failed = failed_on (fails_in c.args.rule c.args.self) c.args.before c.members.left c.take_first.new.self c.in-Some.status c.in-Some.ensures (sym c.fails.ensures.by ∙ c.if-fails.false) c.members.invariant.failed;
}
