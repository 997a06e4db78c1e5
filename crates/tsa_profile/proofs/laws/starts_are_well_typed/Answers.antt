use Rattle.tsa_profile.proofs.StartLaws as proved
use Rattle.tsa_profile.proofs.laws.starts_are_well_typed.Goals as goal

pub returns : goal.returns
returns c = proved.starts_are_well_typed
