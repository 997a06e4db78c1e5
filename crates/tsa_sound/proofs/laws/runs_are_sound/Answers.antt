use Rattle.tsa_sound.proofs.RunsSound as runs_sound
use Rattle.tsa_sound.proofs.laws.runs_are_sound.Goals as goal

pub returns : goal.returns
returns c = runs_sound.runs_are_sound
