use Rattle.tsa_path.proofs.LockExamples as proved
use Rattle.tsa_path.proofs.laws.locks_are_as_written.Goals as goal

pub returns : goal.returns
returns c = proved.locks_are_as_written
