use Rattle.tsa_rules.proofs.Sheets as sheets
use Rattle.tsa_rules.proofs.laws.sheets_that_pass_are_kept.Goals as goal

pub returns-clause-kept : goal.returns-clause-kept
returns-clause-kept c = sheets.sheets_that_pass_are_kept

pub returns-clause-possible : goal.returns-clause-possible
returns-clause-possible c = sheets.sheets_that_pass_are_possible
