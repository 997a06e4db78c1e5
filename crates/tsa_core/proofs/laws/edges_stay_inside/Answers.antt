use Rattle.tsa_core.proofs.EdgesInside.{edges_stay_inside}
use Rattle.tsa_core.proofs.laws.edges_stay_inside.Goals as goal

pub returns : goal.returns
returns c = edges_stay_inside
