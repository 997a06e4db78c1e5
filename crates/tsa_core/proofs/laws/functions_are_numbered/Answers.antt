use Rattle.tsa_core.proofs.FunctionNumbers.{functions_are_numbered}
use Rattle.tsa_core.proofs.laws.functions_are_numbered.Goals as goal

pub returns : goal.returns
returns c = functions_are_numbered
