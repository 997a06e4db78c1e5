use Rattle.tsa_core.proofs.BodiesAgree.{bodies_agree}
use Rattle.tsa_core.proofs.laws.bodies_agree.Goals as goal

pub returns : goal.returns
returns c = bodies_agree
