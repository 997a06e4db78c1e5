use Rattle.tsa_rules_view.proofs.Examples as worked
use Rattle.tsa_rules_view.proofs.laws.lock_kinds_are_as_written.Goals as goal

pub returns : goal.returns
returns c = worked.lock_kinds_are_as_written
