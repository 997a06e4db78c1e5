use Rattle.tsa_warn_text.proofs.SetMembers as sets
use Rattle.tsa_warn_text.proofs.line_laws.members_are_what_sets_have.Goals as goal

pub returns-clause-each : goal.returns-clause-each
returns-clause-each c = sets.members_are_what_sets_have

pub returns-clause-ordered : goal.returns-clause-ordered
returns-clause-ordered c = sets.members_are_in_order
