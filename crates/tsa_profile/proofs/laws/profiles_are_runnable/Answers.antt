use Rattle.tsa_profile.proofs.UnitsRun as proved
use Rattle.tsa_profile.proofs.laws.profiles_are_runnable.Goals as goal

pub returns : goal.returns
returns c = proved.profiles_are_runnable
