use Rattle.tsa_core.proofs.GoingOn.{points_go_on}
use Rattle.tsa_core.proofs.laws.points_go_on.Goals as goal

pub returns : goal.returns
returns c = points_go_on
