-- What a turn with a lock leaves, what is told of it, and what the lock function answers.
use Rattle.std.specs.Prelude.{◌≡◌, ℕ, ℤ, Bool, true, false, not, List, Option, Some, None, if◌then◌else◌}
use Rattle.tsa_core.specs.Programs.{Program}
use Rattle.tsa_path.specs.Values.{of_truth}
use Rattle.tsa_locks.specs.Locks.{Lock}
use Rattle.tsa_locks.specs.TableStates.{StandFor}
use Rattle.tsa_locks.specs.declared.table.LockTable.{LockTable}
use Rattle.tsa_sched.specs.declared.event.EventKind.{EventKind}
use Rattle.tsa_sched.specs.declared.event.EventKind.TheVariants.{Took, Waits, Tried, Gave, NotHeld}
use Rattle.tsa_mean.specs.Frames.{frame_with_answer}
use Rattle.tsa_mean.specs.States.{Frame, State, running, with_thread}
use Rattle.tsa_mean.specs.Steps.{is_reentrant_at, perform}
use Rattle.tsa_exec_locks.specs.Acts.{act_at_lock}
use Rattle.tsa_exec_locks.specs.declared.act.LockAct.{LockAct}
use Rattle.tsa_exec_locks.specs.declared.act.LockAct.TheVariants.{Take, Try, Give}
use Rattle.tsa_exec_locks.specs.declared.taking.LockPlace.{LockPlace}
use Rattle.tsa_exec_locks.specs.declared.turn.LockTurn.{LockTurn}

-- What a lock function answers, by what is told of its turn: nothing while it waits; a try whether it took the lock, by the answer that its
-- attribute names for that; and all others 0.
abbrev pub answer_told : LockAct → EventKind → Option Bool
answer_told (Take mode) (Took lock m) = Some false
answer_told (Try mode success) (Tried lock m took) = Some (if took then success else not success)
answer_told (Give mode) (Gave lock m) = Some false
answer_told (Give mode) (NotHeld lock) = Some false
answer_told act event = None

abbrev pub with_locks : State → List Lock → State
with_locks s locks = record { store = s.store; locks = locks; threads = s.threads }

-- a thread that waits stays as it was, and after every other turn its frame on top goes on with the answer
abbrev pub after_lock : Program → State → (thread : ℕ) → Frame → List Frame → List Lock → (answer : Option Bool) → State
after_lock u s t frame below locks None = with_locks s locks
after_lock u s t frame below locks (Some b) = with_thread (with_locks s locks) t (running (frame_with_answer u frame (of_truth b)) below)

-- The machine performs the act as the turn says, and the table stands for the machine's locks after it.
pub record TurnsAs (u : Program) (s : State) (t : ℕ) (z : ℤ) (frame : Frame) (below : List Frame) (act : LockAct) (lock : ℕ) (turn : LockTurn) (new : LockTable) : Type 0 where
  pub locks_after : List Lock
  pub stands : StandFor new locks_after
  pub performs : perform u s t frame below z (act_at_lock act lock) ≡ (after_lock u s t frame below locks_after turn.answer, turn.event)

-- and so in each state whose locks the table stands for, of each program where the lock is reentrant or isn't
abbrev pub IsTurnOf : LockAct → LockPlace → (thread : ℕ) → LockTurn → (old new : LockTable) → Type 0
IsTurnOf act lock t turn old new = (u : Program) (s : State) (z : ℤ) (frame : Frame) (below : List Frame) → StandFor old s.locks
    → is_reentrant_at u lock.place ≡ lock.is_reentrant → TurnsAs u s t z frame below act lock.place turn new
