use Rattle.std.proofs.Common.{subst, sym}
use Rattle.tsa_graph_edges.specs.Links.{outcome_of}
use Rattle.tsa_rules.specs.Sets.{HasPlace}
use Rattle.tsa_rules.proofs.CasePlaces.{effect_placed}
use Rattle.tsa_rules.proofs.case.Case.with_effect.Goals as goal

pub with-requires : goal.with-requires
with-requires c = subst HasPlace (sym c.effect.ensures.by) (effect_placed c.args.self (outcome_of c.args.outcome) c.args.status c.requires.role c.requires.place)
