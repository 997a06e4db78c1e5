use Rattle.tsa_tree.proofs.units.Laws.{refused_is_no_unit}
use Rattle.tsa_tree.proofs.laws.what_is_refused_is_no_unit.Goals as goal

pub returns : goal.returns
returns c = refused_is_no_unit
