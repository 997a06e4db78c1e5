use Rattle.tsa_sound_accepted.proofs.kept.Functions as functions
use Rattle.tsa_sound_accepted.proofs.kept.units_keep_their_rows.Goals as goal

pub returns : goal.returns
returns c = functions.units_keep_their_rows
