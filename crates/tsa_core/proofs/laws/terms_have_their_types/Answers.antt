use Rattle.tsa_core.proofs.TypedTerms.{terms_have_types}
use Rattle.tsa_core.proofs.laws.terms_have_their_types.Goals as goal

pub returns : goal.returns
returns c = terms_have_types
