use Rattle.tsa_rules_roles.proofs.OfPrograms as of
use Rattle.tsa_rules_roles.proofs.role_laws.roles_are_of_the_program.Goals as goal

pub returns : goal.returns
returns c = of.roles_are_of_the_program
