use Rattle.tsa_profile.proofs.StartLaws as proved
use Rattle.tsa_profile.proofs.laws.start_values_have_their_kinds.Goals as goal

pub returns : goal.returns
returns c = proved.start_values_have_their_kinds
