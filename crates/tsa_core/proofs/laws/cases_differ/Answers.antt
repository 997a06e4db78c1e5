use Rattle.tsa_core.proofs.CasesDiffer.{cases_differ}
use Rattle.tsa_core.proofs.CasesStand.{read_cases_differ}
use Rattle.tsa_core.proofs.laws.cases_differ.Goals as goal

pub returns-clause-apart : goal.returns-clause-apart
returns-clause-apart c = cases_differ

pub returns-clause-read : goal.returns-clause-read
returns-clause-read c = read_cases_differ
