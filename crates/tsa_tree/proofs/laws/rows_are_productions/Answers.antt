use Rattle.tsa_tree.proofs.expressions.RowEquality.{spell_the_same, begin_the_same}
use Rattle.tsa_tree.proofs.laws.rows_are_productions.Goals as goal

pub returns-clause-spelled : goal.returns-clause-spelled
returns-clause-spelled c = spell_the_same

pub returns-clause-begun : goal.returns-clause-begun
returns-clause-begun c = begin_the_same
