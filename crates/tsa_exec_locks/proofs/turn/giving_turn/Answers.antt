use Rattle.std.proofs.Common.{◌≡◌}
use Rattle.tsa_exec_locks.proofs.Turns.{give_done, give_fails}
use Rattle.tsa_exec_locks.proofs.turn.giving_turn.Goals as goal

pub returns-in-Some-clause-turn : goal.returns-in-Some-clause-turn
returns-in-Some-clause-turn c = λ u s z frame below st again. give_done u s c.args.thread z frame below c.give.new.locks c.args.lock.place c.args.mode c.in-Some.mode (c.in-Some.ensures.gives s.locks st)

pub returns-in-None-clause-turn : goal.returns-in-None-clause-turn
returns-in-None-clause-turn c = λ u s z frame below st again. give_fails u s c.args.thread z frame below c.give.new.locks c.args.lock.place c.args.mode (c.in-None.ensures.gives s.locks st)
