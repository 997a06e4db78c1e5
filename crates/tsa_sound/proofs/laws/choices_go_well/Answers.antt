use Rattle.tsa_sound.proofs.Going as going
use Rattle.tsa_sound.proofs.laws.choices_go_well.Goals as goal

pub returns : goal.returns
returns c = going.choices_go_well
