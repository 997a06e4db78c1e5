use Rattle.tsa_rules.proofs.EdgeInduction as carried
use Rattle.tsa_rules.proofs.laws.kept_rows_break_no_rule.Goals as goal

pub returns : goal.returns
returns c = carried.kept_rows_break_no_rule
