use Rattle.tsa_core_environment.proofs.KnownItems as proved
use Rattle.tsa_core_environment.proofs.laws.scopes_are_those_of_the_unit.Goals as goal

pub returns-clause-one : goal.returns-clause-one
returns-clause-one c = proved.members_come

pub returns-clause-all : goal.returns-clause-all
returns-clause-all c = proved.members_make
