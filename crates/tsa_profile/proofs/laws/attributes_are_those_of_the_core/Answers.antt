use Rattle.tsa_profile.proofs.KnownAttributes as proved
use Rattle.tsa_profile.proofs.laws.attributes_are_those_of_the_core.Goals as goal

pub returns : goal.returns
returns c = proved.attributes_are_those_of_the_core
