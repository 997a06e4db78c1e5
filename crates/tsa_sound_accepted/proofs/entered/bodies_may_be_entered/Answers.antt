use Rattle.tsa_sound_accepted.proofs.entered.FunctionBodies as bodies
use Rattle.tsa_sound_accepted.proofs.entered.bodies_may_be_entered.Goals as goal

pub returns : goal.returns
returns c = bodies.bodies_may_be_entered
