use Rattle.tsa_core.proofs.KindsOfTerms.{terms_have_kinds}
use Rattle.tsa_core.proofs.laws.terms_have_their_kinds.Goals as goal

pub returns : goal.returns
returns c = terms_have_kinds
