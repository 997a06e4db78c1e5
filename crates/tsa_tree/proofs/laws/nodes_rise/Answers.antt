use Rattle.tsa_tree.proofs.units.NodesClimb.{nodes_rise}
use Rattle.tsa_tree.proofs.laws.nodes_rise.Goals as goal

pub returns : goal.returns
returns c = nodes_rise
