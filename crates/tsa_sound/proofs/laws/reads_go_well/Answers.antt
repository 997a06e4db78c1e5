use Rattle.tsa_sound.proofs.ReadLaw as read_law
use Rattle.tsa_sound.proofs.laws.reads_go_well.Goals as goal

pub returns : goal.returns
returns c = read_law.reads_go_well
