use Rattle.tsa_sound_accepted.proofs.kept.Functions as functions
use Rattle.tsa_sound_accepted.proofs.kept.locals_are_set_apart.Goals as goal

pub returns : goal.returns
returns c = functions.locals_are_set_apart
