use Rattle.tsa_sound.proofs.SetLaw as set_law
use Rattle.tsa_sound.proofs.laws.sets_go_well.Goals as goal

pub returns : goal.returns
returns c = set_law.sets_go_well
