use Rattle.std.proofs.Common.{◌≡◌, [], map, take, get_or}
use Rattle.tsa_graph.specs.InnerOutcomes.{outcome_of_one}
use Rattle.tsa_graph.proofs.blocks.inner_outcomes.Given as goal

abbrev pub invariant-each : goal.invariant-each
invariant-each l = l.outcomes.items ≡ map (λ q. outcome_of_one (get_or l.ins q [])) (take l.point-index l.rest)
