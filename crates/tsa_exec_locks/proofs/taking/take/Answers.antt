use Rattle.std.proofs.Common.{◌≡◌, ◌<◌, ◌≤◌, arith}
use Rattle.std.proofs.lemmas.Bool.Decides.{nat_tests}
use Rattle.tsa_locks.specs.Tables.{locks_of}
use Rattle.tsa_locks.proofs.TableStates.{the_table_is_the_state}
use Rattle.tsa_exec_locks.proofs.Changes.{taken_beyond}
use Rattle.tsa_exec_locks.proofs.taking.take.Goals as goal

pub returns-then-not-has-clause-takes : goal.returns-then-not-has-clause-takes
returns-then-not-has-clause-takes c = let h : locks_of c.args.locks.now ≤ c.args.lock.place = grind (arith, nat_tests, c.has.ensures, c.if-not-has.true) in
    taken_beyond c.args.lock.is_reentrant c.args.mode c.args.thread c.args.locks.now c.args.lock.place h

pub returns-in-Shared-clause-takes : goal.returns-in-Shared-clause-takes
returns-in-Shared-clause-takes c = let h : c.args.lock.place < locks_of c.args.locks.now = grind (arith, nat_tests, c.has.ensures, c.if-not-has.false) in
    λ all st. rw (c.in-Shared.is) (the_table_is_the_state.shares c.args.locks.now c.take_shared.new.self all c.args.lock.place c.args.thread c.take_shared.result c.args.lock.is_reentrant (h, c.requires.thread) st c.take_shared.ensures)
