use Rattle.tsa_profile.proofs.ArgumentsWorked as proved
use Rattle.tsa_profile.proofs.argument_laws.arguments_are_as_written.Goals as goal

pub returns : goal.returns
returns c = proved.arguments_are_as_written
