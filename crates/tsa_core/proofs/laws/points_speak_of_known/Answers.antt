use Rattle.tsa_core.proofs.KnownLocals.{points_speak_of_known}
use Rattle.tsa_core.proofs.laws.points_speak_of_known.Goals as goal

pub returns : goal.returns
returns c = points_speak_of_known
