use Rattle.tsa_lower_code.proofs.PointsOfCode.{points_go}
use Rattle.tsa_lower_code.proofs.laws.points_go_as_their_code.Goals as goal

pub returns : goal.returns
returns c = points_go
