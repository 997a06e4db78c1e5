use Rattle.tsa_sound.proofs.AskLaw as ask_law
use Rattle.tsa_sound.proofs.laws.environment_calls_go_well.Goals as goal

pub returns : goal.returns
returns c = ask_law.environment_calls_go_well
