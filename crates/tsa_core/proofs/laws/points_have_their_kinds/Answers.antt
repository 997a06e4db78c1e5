use Rattle.tsa_core.proofs.PointsHold.{points_have_kinds}
use Rattle.tsa_core.proofs.laws.points_have_their_kinds.Goals as goal

pub returns : goal.returns
returns c = points_have_kinds
