use Rattle.tsa_path.proofs.ArgumentsPassed.{arguments_have_paths}
use Rattle.tsa_path.proofs.CallsSuit.{calls_suit_their_paths}
use Rattle.tsa_path.proofs.laws.arguments_have_their_paths.Goals as goal

pub returns-clause-arguments : goal.returns-clause-arguments
returns-clause-arguments c = arguments_have_paths

pub returns-clause-calls : goal.returns-clause-calls
returns-clause-calls c = calls_suit_their_paths
