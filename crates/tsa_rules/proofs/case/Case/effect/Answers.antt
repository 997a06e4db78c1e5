use Rattle.std.proofs.Common.{ap, ◌∙◌}
use Rattle.tsa_rules.specs.Cases.{after_role}
use Rattle.tsa_graph_edges.specs.Links.{outcome_of}
use Rattle.tsa_rules.proofs.CaseEffects.{effect_is}
use Rattle.tsa_rules.proofs.case.Case.effect.Goals as goal

pub returns-clause-is : goal.returns-clause-is
returns-clause-is c = λ u f p path is.
    effect_is u f p path c.args.self (outcome_of c.args.outcome) c.args.status c.after_role.result
    (c.after_role.ensures ∙ ap (after_role c.args.self.role c.args.self.kept (outcome_of c.args.outcome)) c.after_call-after.ensures) is
