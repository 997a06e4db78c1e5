use Rattle.tsa_tree.proofs.statements.Laws.{spell_the_same}
use Rattle.tsa_tree.proofs.laws.rows_of_statements_are_productions.Goals as goal

pub returns : goal.returns
returns c = spell_the_same
