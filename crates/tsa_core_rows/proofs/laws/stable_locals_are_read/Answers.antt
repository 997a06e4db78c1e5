use Rattle.tsa_core_rows.proofs.BodyStable as proved
use Rattle.tsa_core_rows.proofs.laws.stable_locals_are_read.Goals as goal

pub returns : goal.returns
returns c = proved.stable_locals_are_read
