use Rattle.tsa_tree.proofs.units.NamesStand.{names_stand_apart}
use Rattle.tsa_tree.proofs.laws.names_stand_apart.Goals as goal

pub returns : goal.returns
returns c = names_stand_apart
