use Rattle.tsa_rules.proofs.KeptPrograms as programs
use Rattle.tsa_rules.proofs.laws.programs_that_pass_have_no_warnings.Goals as goal

pub returns : goal.returns
returns c = programs.programs_that_pass_have_no_warnings
