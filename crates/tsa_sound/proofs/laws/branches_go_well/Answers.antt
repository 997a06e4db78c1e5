use Rattle.tsa_sound.proofs.Branches as branches
use Rattle.tsa_sound.proofs.laws.branches_go_well.Goals as goal

pub returns : goal.returns
returns c = branches.branches_go_well
