use Rattle.tsa_rules.specs.Cases.{effect_in}
use Rattle.tsa_graph_edges.specs.Links.{outcome_of}
use Rattle.tsa_rules.proofs.Members.{inside_on, made_on, done_on}
use Rattle.tsa_rules.proofs.case.Case.image.Goals as goal

pub members-preserved : goal.members-preserved
members-preserved c = record {
  inside = inside_on c.args.before c.members.left c.take_first.new.self c.in-Some.status c.in-Some.ensures c.members.invariant.inside;
  made = made_on (effect_in c.args.self (outcome_of c.args.outcome)) c.args.before c.members.left c.take_first.new.self c.members.after c.with_effect-after.result c.in-Some.status c.in-Some.ensures c.with_effect-after.ensures c.members.invariant.inside c.members.invariant.made;
  done = done_on (effect_in c.args.self (outcome_of c.args.outcome)) c.args.before c.members.left c.take_first.new.self c.members.after c.with_effect-after.result c.in-Some.status c.in-Some.ensures c.with_effect-after.ensures c.members.invariant.done;
}
