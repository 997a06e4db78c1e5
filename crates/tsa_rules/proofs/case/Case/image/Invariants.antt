use Rattle.tsa_rules.specs.Cases.{effect_in}
use Rattle.tsa_graph_edges.specs.Links.{outcome_of}
use Rattle.tsa_rules.proofs.Members.{Inside, Made, Done}
use Rattle.tsa_rules.proofs.case.Case.image.Given as goal

abbrev pub invariant-members : goal.invariant-members
invariant-members l = record {
  inside : Inside l.fn.before l.left;
  made : Made (effect_in l.self (outcome_of l.outcome)) l.fn.before l.after;
  done : Done (effect_in l.self (outcome_of l.outcome)) l.fn.before l.left l.after;
}

abbrev pub decreases-members : goal.decreases-members
decreases-members l = l.left.bits
