use Rattle.tsa_rules.specs.Cases.{fails_in}
use Rattle.tsa_rules.proofs.Members.{Inside, Failed}
use Rattle.tsa_rules.proofs.case.Case.fails_for_some.Given as goal

abbrev pub invariant-members : goal.invariant-members
invariant-members l = record {
  inside : Inside l.fn.before l.left;
  failed : Failed (fails_in l.rule l.self) l.fn.before l.left;
}

abbrev pub decreases-members : goal.decreases-members
decreases-members l = l.left.bits
