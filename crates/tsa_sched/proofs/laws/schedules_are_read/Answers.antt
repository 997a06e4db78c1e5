use Rattle.tsa_sched.proofs.Running.{schedule_read}
use Rattle.tsa_sched.proofs.Standing.{read_spells}
use Rattle.tsa_sched.proofs.laws.schedules_are_read.Goals as goal

pub returns : goal.returns
returns c = λ text picks. (read_spells text picks, schedule_read text picks)
