use Rattle.tsa_sound.proofs.Starting as starting
use Rattle.tsa_sound.proofs.laws.programs_are_sound.Goals as goal

pub returns : goal.returns
returns c = starting.programs_are_sound
