use Rattle.tsa_profile.proofs.Examples as proved
use Rattle.tsa_profile.proofs.laws.profiles_are_as_written.Goals as goal

pub returns : goal.returns
returns c = proved.profiles_are_as_written
