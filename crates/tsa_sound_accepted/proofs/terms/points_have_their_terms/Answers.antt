use Rattle.tsa_sound_accepted.proofs.terms.PointsFit as fitting
use Rattle.tsa_sound_accepted.proofs.terms.points_have_their_terms.Goals as goal

pub returns : goal.returns
returns c = fitting.points_have_their_terms
