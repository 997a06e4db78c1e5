use Rattle.tsa_core.proofs.EdgeOutcomes.{outcomes_of_points, outcomes_of_actions}
use Rattle.tsa_core.proofs.laws.outcomes_are_of_the_actions.Goals as goal

pub returns-clause-points : goal.returns-clause-points
returns-clause-points c = outcomes_of_points

pub returns-clause-actions : goal.returns-clause-actions
returns-clause-actions c = outcomes_of_actions
