use Rattle.tsa_sound.proofs.LockLaws as lock_laws
use Rattle.tsa_sound.proofs.laws.tries_go_well.Goals as goal

pub returns : goal.returns
returns c = lock_laws.tries_go_well
