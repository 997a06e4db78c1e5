use Rattle.tsa_sound_accepted.proofs.AcceptedUnits as accepted
use Rattle.tsa_sound_accepted.proofs.laws.units_without_warnings_are_sound.Goals as goal

pub returns : goal.returns
returns c = accepted.units_without_warnings_are_sound
