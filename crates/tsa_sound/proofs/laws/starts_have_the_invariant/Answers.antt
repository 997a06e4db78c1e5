use Rattle.tsa_sound.proofs.Starting as starting
use Rattle.tsa_sound.proofs.laws.starts_have_the_invariant.Goals as goal

pub returns : goal.returns
returns c = starting.starts_have_the_invariant
