use Rattle.tsa_core.proofs.CasesStand.{read_cases_apart}
use Rattle.tsa_core.proofs.laws.cases_stand_apart.Goals as goal

pub returns : goal.returns
returns c = read_cases_apart
