use Rattle.tsa_core.proofs.Beginnings.{bodies_begin_below}
use Rattle.tsa_core.proofs.laws.bodies_begin_below.Goals as goal

pub returns : goal.returns
returns c = bodies_begin_below
