use Rattle.tsa_core.proofs.LocalLists.{locals_are_listed}
use Rattle.tsa_core.proofs.laws.locals_are_listed.Goals as goal

pub returns : goal.returns
returns c = locals_are_listed
