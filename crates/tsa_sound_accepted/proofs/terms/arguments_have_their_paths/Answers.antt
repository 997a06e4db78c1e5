use Rattle.tsa_sound_accepted.proofs.terms.PointsFit as fitting
use Rattle.tsa_sound_accepted.proofs.terms.arguments_have_their_paths.Goals as goal

pub returns : goal.returns
returns c = fitting.arguments_have_their_paths
