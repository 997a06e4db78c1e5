use Rattle.tsa_core.proofs.EdgeTargets.{edges_are_followed}
use Rattle.tsa_core.proofs.laws.edges_are_followed.Goals as goal

pub returns : goal.returns
returns c = edges_are_followed
