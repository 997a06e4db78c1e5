use Rattle.std.proofs.Common.{◌≡◌}
use Rattle.tsa_locks.proofs.TableStates.{the_table_is_the_state}
use Rattle.tsa_exec_locks.proofs.taking.take_alone.Goals as goal

pub returns-then-lock-clause-takes : goal.returns-then-lock-clause-takes
returns-then-lock-clause-takes c = λ all st. rw (c.if-lock.true) (the_table_is_the_state.takes_again c.args.locks.now c.take_again.new.self all c.args.lock.place c.args.thread c.take_again.result (c.requires.lock, c.requires.thread) st c.take_again.ensures)

pub returns-else-lock-clause-takes : goal.returns-else-lock-clause-takes
returns-else-lock-clause-takes c = λ all st. rw (c.if-lock.false) (the_table_is_the_state.takes c.args.locks.now c.take.new.self all c.args.lock.place c.args.thread c.take.result (c.requires.lock, c.requires.thread) st c.take.ensures)
