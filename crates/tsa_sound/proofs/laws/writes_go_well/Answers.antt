use Rattle.tsa_sound.proofs.WriteLaw as write_law
use Rattle.tsa_sound.proofs.laws.writes_go_well.Goals as goal

pub returns : goal.returns
returns c = write_law.writes_go_well
