use Rattle.tsa_tree.proofs.expressions.OneTree.{one_tree}
use Rattle.tsa_tree.proofs.laws.one_tree_is_spelled.Goals as goal

pub returns : goal.returns
returns c = one_tree
