use Rattle.tsa_sound.proofs.IdleTurns.{threads_that_do_not_run_go_well, traps_go_well, waits_go_well}
use Rattle.tsa_sound.proofs.laws.turns_that_change_nothing_go_well.Goals as goal

-- src/laws.rt:6:1
pub returns-clause-no_run : goal.returns-clause-no_run
returns-clause-no_run c = threads_that_do_not_run_go_well

-- src/laws.rt:6:1
pub returns-clause-waits : goal.returns-clause-waits
returns-clause-waits c = waits_go_well

-- src/laws.rt:6:1
pub returns-clause-traps : goal.returns-clause-traps
returns-clause-traps c = traps_go_well
