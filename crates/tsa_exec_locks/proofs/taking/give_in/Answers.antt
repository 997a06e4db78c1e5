use Rattle.std.proofs.Common.{◌≡◌}
use Rattle.tsa_locks.proofs.TableStates.{the_table_is_the_state}
use Rattle.tsa_exec_locks.proofs.taking.give_in.Goals as goal

pub returns-in-Exclusive-clause-gives : goal.returns-in-Exclusive-clause-gives
returns-in-Exclusive-clause-gives c = λ all st. rw (c.in-Exclusive.is) (the_table_is_the_state.gives c.args.locks.now c.give.new.self all c.args.place c.args.thread c.give.result (c.requires.lock, c.requires.thread) st c.give.ensures)

pub returns-in-Shared-clause-gives : goal.returns-in-Shared-clause-gives
returns-in-Shared-clause-gives c = λ all st. rw (c.in-Shared.is) (the_table_is_the_state.gives_shared c.args.locks.now c.give_shared.new.self all c.args.place c.args.thread c.give_shared.result (c.requires.lock, c.requires.thread) st c.give_shared.ensures)
