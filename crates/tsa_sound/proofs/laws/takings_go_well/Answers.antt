use Rattle.tsa_sound.proofs.LockLaws as lock_laws
use Rattle.tsa_sound.proofs.laws.takings_go_well.Goals as goal

pub returns : goal.returns
returns c = lock_laws.takings_go_well
