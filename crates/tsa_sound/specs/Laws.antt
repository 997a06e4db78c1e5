-- Each turn keeps the invariant, and is no violation.
use Rattle.std.specs.Prelude.{◌≡◌, ℕ, false, List, Option, Some, None, All}
use Rattle.tsa_core.specs.Programs.{Program}
use Rattle.tsa_sched.specs.declared.event.EventKind.TheVariants as event
use Rattle.tsa_sched.specs.declared.pick.Pick.{Pick}
use Rattle.tsa_mean.specs.Acts.{Act, act_of, to_branch, to_read, to_set, to_write, to_step, to_choose, to_trap, to_take, to_try, to_give}
use Rattle.tsa_mean.specs.Acts.{to_ask, to_enter, to_leave}
use Rattle.tsa_mean.specs.Runs.{step}
use Rattle.tsa_mean.specs.Sound.{IsPick, SoundRun, Start}
use Rattle.tsa_mean.specs.States.{Frame, State, Thread, running, trapped, ended, thread_at}
use Rattle.tsa_sound.specs.Facts.{ProgramFacts}
use Rattle.tsa_sound.specs.FramesFit.{ProgramRows}
use Rattle.tsa_sound.specs.Invariant.{Invariant}

-- the state after a turn has the invariant, and its event is no violation
pub record GoesWell (u : Program) (x : ProgramRows) (s : State) (pick : Pick) : Type 0 where
  pub kept : Invariant u x (step u s pick).0
  pub safe : (step u s pick).1.violation ≡ false

-- a thread that runs takes its turn, and its next act is this
pub record TakesTurn (u : Program) (s : State) (pick : Pick) (act : Act) : Type 0 where
  pub frame : Frame
  pub below : List Frame
  pub runs : thread_at s pick.thread ≡ Some (running frame below)
  pub does : act_of u frame ≡ act

-- all turns of threads whose next act is one of these go well, where the program is as it should be and the state has the invariant
abbrev pub TurnsGoWell : (Act → Type 0) → Type 0
TurnsGoWell IsOne = (u : Program) (x : ProgramRows) (s : State) (pick : Pick) (act : Act) → ProgramFacts u x → Invariant u x s → TakesTurn u s pick act → IsOne act
    → GoesWell u x s pick

-- a thread that isn't there, has ended or has stopped for good does nothing
abbrev pub DoesNotRun : Option Thread → Type 0
DoesNotRun None = Unit {0}
DoesNotRun (Some ended) = Unit {0}
DoesNotRun (Some (trapped frame below)) = Unit {0}
DoesNotRun (Some (running frame below)) = ⊥

abbrev pub ThreadsThatDoNotRunGoWell : Type 0
ThreadsThatDoNotRunGoWell = (u : Program) (x : ProgramRows) (s : State) (pick : Pick) → Invariant u x s → DoesNotRun (thread_at s pick.thread) → GoesWell u x s pick

-- a turn that waits
abbrev pub WaitsGoWell : Type 0
WaitsGoWell = (u : Program) (x : ProgramRows) (s : State) (pick : Pick) (lock holder : ℕ) → Invariant u x s → (step u s pick).1.kind ≡ event.Waits lock holder
    → GoesWell u x s pick

-- a trap
abbrev pub IsTrap : Act → Type 0
IsTrap (to_trap kind) = Unit {0}
IsTrap act = ⊥

-- the read of a cell
abbrev pub IsRead : Act → Type 0
IsRead (to_read place left) = Unit {0}
IsRead act = ⊥

-- the write of a cell
abbrev pub IsWrite : Act → Type 0
IsWrite (to_write place v) = Unit {0}
IsWrite act = ⊥

-- a local is set
abbrev pub IsSet : Act → Type 0
IsSet (to_set n v) = Unit {0}
IsSet act = ⊥

-- nothing but to go on
abbrev pub IsStep : Act → Type 0
IsStep to_step = Unit {0}
IsStep act = ⊥

-- a test
abbrev pub IsBranch : Act → Type 0
IsBranch (to_branch taken) = Unit {0}
IsBranch act = ⊥

-- a switch
abbrev pub IsChoice : Act → Type 0
IsChoice (to_choose v) = Unit {0}
IsChoice act = ⊥

-- a lock is taken, tried, or given back
abbrev pub IsTake : Act → Type 0
IsTake (to_take mode lock) = Unit {0}
IsTake act = ⊥

abbrev pub IsTry : Act → Type 0
IsTry (to_try mode success lock) = Unit {0}
IsTry act = ⊥

abbrev pub IsGive : Act → Type 0
IsGive (to_give mode lock) = Unit {0}
IsGive act = ⊥

-- the environment is called
abbrev pub IsAsk : Act → Type 0
IsAsk (to_ask function result) = Unit {0}
IsAsk act = ⊥

-- it answers with an `int`, which is converted
abbrev pub EnvironmentCallsGoWell : Type 0
EnvironmentCallsGoWell = (u : Program) (x : ProgramRows) (s : State) (pick : Pick) (act : Act) → IsPick pick → ProgramFacts u x → Invariant u x s → TakesTurn u s pick act
    → IsAsk act → GoesWell u x s pick

-- a function with a body is called
abbrev pub IsEnter : Act → Type 0
IsEnter (to_enter function args) = Unit {0}
IsEnter act = ⊥

-- a function returns
abbrev pub IsLeave : Act → Type 0
IsLeave (to_leave answer) = Unit {0}
IsLeave act = ⊥

-- every turn goes well, whatever its thread does next
abbrev pub EveryTurnGoesWell : Type 0
EveryTurnGoesWell = (u : Program) (x : ProgramRows) (s : State) (pick : Pick) → IsPick pick → ProgramFacts u x → Invariant u x s → GoesWell u x s pick

-- so every run from a state with the invariant is sound
abbrev pub RunsAreSound : Type 0
RunsAreSound = (u : Program) (x : ProgramRows) (s : State) (picks : List Pick) → ProgramFacts u x → Invariant u x s → All IsPick picks → SoundRun u s picks

-- every start has the invariant
abbrev pub StartsHaveTheInvariant : Type 0
StartsHaveTheInvariant = (u : Program) (x : ProgramRows) (s : State) → ProgramFacts u x → Start u s → Invariant u x s

-- and so every run from a start is sound
abbrev pub ProgramsAreSound : Type 0
ProgramsAreSound = (u : Program) (x : ProgramRows) (s : State) (picks : List Pick) → ProgramFacts u x → Start u s → All IsPick picks → SoundRun u s picks
