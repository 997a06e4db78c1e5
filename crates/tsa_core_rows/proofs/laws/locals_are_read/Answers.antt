use Rattle.tsa_core_rows.proofs.BodyLocals as proved
use Rattle.tsa_core_rows.proofs.laws.locals_are_read.Goals as goal

pub returns : goal.returns
returns c = proved.locals_are_read
