use Rattle.tsa_rules.proofs.WorkedSheets as sheets
use Rattle.tsa_rules.proofs.laws.a_locked_write_is_accepted.Goals as goal

pub returns : goal.returns
returns c = sheets.a_locked_write_is_accepted
