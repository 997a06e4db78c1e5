use Rattle.tsa_lower_code.proofs.TermCodes.{code_goes}
use Rattle.tsa_lower_code.proofs.laws.code_goes_as_the_term.Goals as goal

pub returns : goal.returns
returns c = code_goes
