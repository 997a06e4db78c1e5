use Rattle.tsa_rules_roles.proofs.Examples as worked
use Rattle.tsa_rules_roles.proofs.laws.answers_are_as_written.Goals as goal

pub returns : goal.returns
returns c = worked.answers_are_as_written
