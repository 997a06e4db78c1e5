use Rattle.std.proofs.Common.{◌≡◌, ap}
use Rattle.tsa_locks.specs.Locks.{take}
use Rattle.tsa_mean.specs.States.{lock_at}
use Rattle.tsa_exec_locks.proofs.Turns.{take_done, take_waits}
use Rattle.tsa_exec_locks.proofs.turn.taking_turn.Goals as goal

pub returns-in-Done-clause-turn : goal.returns-in-Done-clause-turn
returns-in-Done-clause-turn c = λ u s z frame below st again. take_done u s c.args.thread z frame below c.take.new.locks c.args.lock.place c.args.mode (take c.args.lock.is_reentrant c.args.mode c.args.thread (lock_at s c.args.lock.place))
    (ap (λ r. take r c.args.mode c.args.thread (lock_at s c.args.lock.place)) again) (c.in-Done.ensures.takes s.locks st)

pub returns-in-Waits-clause-turn : goal.returns-in-Waits-clause-turn
returns-in-Waits-clause-turn c = λ u s z frame below st again. take_waits u s c.args.thread z frame below c.take.new.locks c.args.lock.place c.args.mode (take c.args.lock.is_reentrant c.args.mode c.args.thread (lock_at s c.args.lock.place)) c.in-Waits.holder
    (ap (λ r. take r c.args.mode c.args.thread (lock_at s c.args.lock.place)) again) (c.in-Waits.ensures.takes s.locks st)
