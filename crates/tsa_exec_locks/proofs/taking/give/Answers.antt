use Rattle.std.proofs.Common.{◌≡◌, ◌<◌, ◌≤◌, arith}
use Rattle.std.proofs.lemmas.Bool.Decides.{nat_tests}
use Rattle.tsa_locks.specs.Tables.{locks_of}
use Rattle.tsa_exec_locks.proofs.Changes.{kept_beyond}
use Rattle.tsa_exec_locks.proofs.Turns.{gave_any}
use Rattle.tsa_exec_locks.proofs.taking.give.Goals as goal

pub returns-then-not-has-clause-gives : goal.returns-then-not-has-clause-gives
returns-then-not-has-clause-gives c = let h : locks_of c.args.locks.now ≤ c.args.place = grind (arith, nat_tests, c.has.ensures, c.if-not-has.true) in
    kept_beyond c.args.mode c.args.thread c.args.locks.now c.args.place h

pub returns-in-None-clause-gives : goal.returns-in-None-clause-gives
returns-in-None-clause-gives c = let h : c.args.place < locks_of c.args.locks.now = grind (arith, nat_tests, c.has.ensures, c.if-not-has.false) in
    λ all st. rw (c.in-None.is) (gave_any c.args.locks.now c.give_any.new.self c.args.place c.args.thread c.give_any.result all (h, c.requires.thread) st c.give_any.ensures)
