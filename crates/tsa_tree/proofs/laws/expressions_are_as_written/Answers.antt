use Rattle.tsa_tree.proofs.expressions.Examples.{productions_are_read}
use Rattle.tsa_tree.proofs.laws.expressions_are_as_written.Goals as goal

pub returns : goal.returns
returns c = productions_are_read
