use Rattle.tsa_place_layout.proofs.Tables.{none_sized}
use Rattle.tsa_place_layout.proofs.structures.Structures.new.Goals as goal

pub invariant_of-result : goal.invariant_of-result
invariant_of-result c = none_sized c.new.result.items c.new.ensures.items
