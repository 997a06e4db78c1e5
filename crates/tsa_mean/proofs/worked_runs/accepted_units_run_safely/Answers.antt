use Rattle.tsa_mean.proofs.Schedules as schedules
use Rattle.tsa_mean.proofs.worked_runs.accepted_units_run_safely.Goals as goal

pub returns : goal.returns
returns c = schedules.accepted_units_run_safely
