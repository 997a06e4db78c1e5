use Rattle.tsa_profile.proofs.PathTables as proved
use Rattle.tsa_profile.proofs.laws.paths_are_those_of_the_core.Goals as goal

pub returns : goal.returns
returns c = proved.paths_are_those_of_the_core
