use Rattle.tsa_lower_going.proofs.Doings as proved
use Rattle.tsa_lower_going.proofs.laws.acts_tell_what_comes.Goals as goal

pub returns-clause-points : goal.returns-clause-points
returns-clause-points c = proved.acts_tell

pub returns-clause-frames : goal.returns-clause-frames
returns-clause-frames c = proved.frames_tell
