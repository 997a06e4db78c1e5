use Rattle.tsa_tree.proofs.declarations.Laws.{spell_the_same, types_spell_the_same}
use Rattle.tsa_tree.proofs.laws.rows_of_declarations_are_productions.Goals as goal

pub returns-clause-spelled : goal.returns-clause-spelled
returns-clause-spelled c = spell_the_same

pub returns-clause-types : goal.returns-clause-types
returns-clause-types c = types_spell_the_same
