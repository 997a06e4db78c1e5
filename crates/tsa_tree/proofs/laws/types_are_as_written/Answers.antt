use Rattle.tsa_tree.proofs.types.UnitExamples.{units_are_typed}
use Rattle.tsa_tree.proofs.laws.types_are_as_written.Goals as goal

-- src/laws.rt:205:1
pub returns : goal.returns
returns c = units_are_typed
