use Rattle.tsa_sound_accepted.proofs.terms.CallsFit as fitting
use Rattle.tsa_sound_accepted.proofs.terms.calls_have_their_terms.Goals as goal

pub returns : goal.returns
returns c = fitting.calls_have_their_terms
