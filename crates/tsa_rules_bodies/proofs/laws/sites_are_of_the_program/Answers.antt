use Rattle.tsa_rules_bodies.proofs.SiteLaws as proved
use Rattle.tsa_rules_bodies.proofs.laws.sites_are_of_the_program.Goals as goal

pub returns : goal.returns
returns c = proved.sites_are_of_the_program
