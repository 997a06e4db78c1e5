use Rattle.tsa_core.proofs.TextPoints.{points_are_those}
use Rattle.tsa_core.proofs.laws.points_are_those_of_the_text.Goals as goal

pub returns : goal.returns
returns c = points_are_those
