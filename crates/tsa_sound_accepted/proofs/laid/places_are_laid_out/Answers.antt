use Rattle.tsa_sound_accepted.proofs.laid.Laying as laying
use Rattle.tsa_sound_accepted.proofs.laid.places_are_laid_out.Goals as goal

pub returns : goal.returns
returns c = laying.places_are_laid_out
