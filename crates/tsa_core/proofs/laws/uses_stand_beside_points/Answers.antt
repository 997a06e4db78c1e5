use Rattle.tsa_core.proofs.FunctionNumbers.{uses_stand_beside}
use Rattle.tsa_core.proofs.laws.uses_stand_beside_points.Goals as goal

pub returns : goal.returns
returns c = uses_stand_beside
