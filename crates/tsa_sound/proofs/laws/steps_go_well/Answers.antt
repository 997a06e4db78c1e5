use Rattle.tsa_sound.proofs.Going as going
use Rattle.tsa_sound.proofs.laws.steps_go_well.Goals as goal

pub returns : goal.returns
returns c = going.steps_go_well
