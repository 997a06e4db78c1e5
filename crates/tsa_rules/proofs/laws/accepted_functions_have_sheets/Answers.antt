use Rattle.tsa_rules.proofs.WorkedSheets as sheets
use Rattle.tsa_rules.proofs.laws.accepted_functions_have_sheets.Goals as goal

pub returns : goal.returns
returns c = sheets.accepted_functions_have_sheets
