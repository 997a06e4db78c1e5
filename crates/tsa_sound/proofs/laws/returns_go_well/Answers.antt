use Rattle.tsa_sound.proofs.LeaveLaw as leave_law
use Rattle.tsa_sound.proofs.laws.returns_go_well.Goals as goal

pub returns : goal.returns
returns c = leave_law.returns_go_well
