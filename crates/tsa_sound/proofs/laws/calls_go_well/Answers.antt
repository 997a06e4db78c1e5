use Rattle.tsa_sound.proofs.EnterLaw as enter_law
use Rattle.tsa_sound.proofs.laws.calls_go_well.Goals as goal

pub returns : goal.returns
returns c = enter_law.calls_go_well
