use Rattle.tsa_core.proofs.ProgramKinds.{programs_well_kinded}
use Rattle.tsa_core.proofs.laws.programs_are_well_kinded.Goals as goal

pub returns : goal.returns
returns c = programs_well_kinded
