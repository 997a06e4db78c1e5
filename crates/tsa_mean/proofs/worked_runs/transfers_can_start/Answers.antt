use Rattle.tsa_mean.proofs.Schedules as schedules
use Rattle.tsa_mean.proofs.worked_runs.transfers_can_start.Goals as goal

pub returns : goal.returns
returns c = schedules.transfers_can_start
