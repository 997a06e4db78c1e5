use Rattle.tsa_sound_accepted.proofs.kept.RowsOfWalks as visited
use Rattle.tsa_sound_accepted.proofs.kept.rows_are_kept_where_no_rule_fails.Goals as goal

pub returns-clause-kept : goal.returns-clause-kept
returns-clause-kept c = visited.rows_are_kept

pub returns-clause-possible : goal.returns-clause-possible
returns-clause-possible c = visited.rows_are_possible
