use Rattle.tsa_path.proofs.ValueExamples as proved
use Rattle.tsa_path.proofs.laws.values_are_as_written.Goals as goal

pub returns : goal.returns
returns c = proved.values_are_as_written
