use Rattle.tsa_rules.proofs.KeptPrograms as programs
use Rattle.tsa_rules.proofs.laws.kept_programs_have_no_warnings.Goals as goal

pub returns : goal.returns
returns c = programs.kept_programs_have_no_warnings
