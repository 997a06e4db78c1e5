-- The shape of turns: what they leave as it was, and how much of the store and of the locks one of them reads and changes.
use Rattle.std.specs.Prelude.{◌≡◌, ◌↔◌, ℕ, ℤ, ◌<◌, ◌++◌, true, false, Option, Some, None, List, length, slice_set, All}
use Rattle.tsa_base.specs.declared.value.Value.{Value}
use Rattle.tsa_core.specs.Programs.{Program}
use Rattle.tsa_place_model.specs.Stores.{IsWellTyped, start}
use Rattle.tsa_locks.specs.Laws.{IsLock}
use Rattle.tsa_locks.specs.Locks.{Lock, take, taken, give}
use Rattle.tsa_sched.specs.declared.event.Mode.{Mode}
use Rattle.tsa_sched.specs.declared.event.Event.{Event}
use Rattle.tsa_sched.specs.declared.event.EventKind.{EventKind}
use Rattle.tsa_sched.specs.declared.event.EventKind.TheVariants as event
use Rattle.tsa_sched.specs.declared.pick.Pick.{Pick}
use Rattle.tsa_mean.specs.Acts.{Act, act_of, to_give, to_write, touched_cell}
use Rattle.tsa_mean.specs.Runs.{idle, run, step}
use Rattle.tsa_mean.specs.Safe.{IsSafe}
use Rattle.tsa_mean.specs.Sound.{Opening, Start}
use Rattle.tsa_mean.specs.Starts.{AsksNothing, Begin, BeginsWell, first_state}
use Rattle.tsa_mean.specs.States.{Frame, Holds, State, Thread, running, trapped, ended, holds_of, lock_at, thread_at, value_at}
use Rattle.tsa_mean.specs.Steps.{is_reentrant_at, perform}
use Rattle.tsa_mean.specs.Violations.{violates}

-- a turn of a thread that isn't there, has ended, or has stopped for good is told so, and changes nothing
pub record NothingIsDoneWhereNoneRuns : Type 0 where
  pub absent : (u : Program) (s : State) (pick : Pick) → thread_at s pick.thread ≡ None → step u s pick ≡ idle s pick.thread event.NoThread
  pub over : (u : Program) (s : State) (pick : Pick) → thread_at s pick.thread ≡ Some ended → step u s pick ≡ idle s pick.thread event.AlreadyEnded
  pub stopped : (u : Program) (s : State) (pick : Pick) (frame : Frame) (below : List Frame) → thread_at s pick.thread ≡ Some (trapped frame below)
      → step u s pick ≡ idle s pick.thread event.AlreadyTrapped

-- a turn that waits changes nothing, and the thread that it waits for holds the lock
pub record NothingIsDoneWhileWaiting : Type 0 where
  pub same : (u : Program) (s : State) (pick : Pick) (lock holder : ℕ) → (step u s pick).1.kind ≡ event.Waits lock holder → (step u s pick).0 ≡ s
  pub holder : (u : Program) (s : State) (pick : Pick) (lock holder : ℕ) → IsLock (lock_at s lock) → (step u s pick).1.kind ≡ event.Waits lock holder
      → (mode : Mode) × (0 < holds_of s holder lock mode)

-- What a turn does to the store and to the locks, by its event: it writes the one cell, changes the one lock as a taking or a giving does,
-- or leaves all as it was.
pub record Writes (old new : State) (place : ℕ) (v : Value) : Type 0 where
  pub store : new.store ≡ slice_set old.store place v
  pub locks : new.locks ≡ old.locks

pub record Takes (u : Program) (thread : ℕ) (old new : State) (lock : ℕ) (mode : Mode) : Type 0 where
  pub after : Lock
  pub takes : take (is_reentrant_at u lock) mode thread (lock_at old lock) ≡ taken after
  pub locks : new.locks ≡ slice_set old.locks lock after
  pub store : new.store ≡ old.store

pub record Gives (thread : ℕ) (old new : State) (lock : ℕ) (mode : Mode) : Type 0 where
  pub after : Lock
  pub gives : give mode thread (lock_at old lock) ≡ Some after
  pub locks : new.locks ≡ slice_set old.locks lock after
  pub store : new.store ≡ old.store

pub record Keeps (old new : State) : Type 0 where
  pub store : new.store ≡ old.store
  pub locks : new.locks ≡ old.locks

abbrev pub Changes : Program → (thread : ℕ) → (old new : State) → EventKind → Type 0
Changes u t old new (event.Write place v) = Writes old new place v
Changes u t old new (event.Took lock mode) = Takes u t old new lock mode
Changes u t old new (event.Tried lock mode true) = Takes u t old new lock mode
Changes u t old new (event.Gave lock mode) = Gives t old new lock mode
Changes u t old new kind = Keeps old new

-- A turn reads one cell at most, which it tells: over another store that agrees on that cell, the same is told and done.
abbrev pub over : State → List Value → State
over s store = record { store = store; locks = s.locks; threads = s.threads }

abbrev pub AgreeOn : EventKind → (s other : State) → Type 0
AgreeOn (event.Read place v) s other = value_at other place ≡ value_at s place
AgreeOn kind s other = Unit {0}

pub record TurnsAreAtomic : Type 0 where
  pub changes : (u : Program) (s : State) (pick : Pick) → Changes u pick.thread s (step u s pick).0 (step u s pick).1.kind
  pub others : (u : Program) (s : State) (pick : Pick) (thread : ℕ) → (thread ≡ pick.thread → ⊥) → thread_at (step u s pick).0 thread ≡ thread_at s thread
  pub read : (u : Program) (s : State) (pick : Pick) (place : ℕ) (v : Value) → (step u s pick).1.kind ≡ event.Read place v → v ≡ value_at s place
  pub tells : (u : Program) (s : State) (pick : Pick) (store : List Value) → AgreeOn (step u s pick).1.kind s (over s store)
      → (step u (over s store) pick).1 ≡ (step u s pick).1
  pub does : (u : Program) (s : State) (pick : Pick) (store : List Value) → AgreeOn (step u s pick).1.kind s (over s store)
      → (step u (over s store) pick).0.threads ≡ (step u s pick).0.threads
  pub locks : (u : Program) (s : State) (pick : Pick) (store : List Value) → AgreeOn (step u s pick).1.kind s (over s store)
      → (step u (over s store) pick).0.locks ≡ (step u s pick).0.locks

-- Each pick has its turn, which tells one event: of its thread, and where that runs, of the point at which it is. A run goes on where the
-- last one ended.
pub record RunsGoTurnByTurn : Type 0 where
  pub total : (u : Program) (s : State) (pick : Pick) → (after : State) × (told : Event) × (step u s pick ≡ (after, told))
  pub point : (u : Program) (s : State) (pick : Pick) (frame : Frame) (below : List Frame) → thread_at s pick.thread ≡ Some (running frame below)
      → (step u s pick).1.site ≡ Some (record { function = frame.function; point = frame.point })
  pub thread : (u : Program) (s : State) (pick : Pick) → (step u s pick).1.thread ≡ pick.thread
  pub each : (u : Program) (s : State) (picks : List Pick) → length (run u s picks).1 ≡ length picks
  pub state : (u : Program) (s : State) (picks more : List Pick) → (run u s (picks ++ more)).0 ≡ (run u (run u s picks).0 more).0
  pub events : (u : Program) (s : State) (picks more : List Pick) → (run u s (picks ++ more)).1 ≡ (run u s picks).1 ++ (run u (run u s picks).0 more).1

-- The next turn of a thread that runs tells its act: it reads or writes the cell that the act touches, and writes what the act does.
abbrev pub cell_in : EventKind → Option ℕ
cell_in (event.Read place v) = Some place
cell_in (event.Write place v) = Some place
cell_in kind = None

pub record TurnsTellTheirActs : Type 0 where
  pub touches : (u : Program) (s : State) (pick : Pick) (frame : Frame) (below : List Frame) → thread_at s pick.thread ≡ Some (running frame below)
      → cell_in (step u s pick).1.kind ≡ touched_cell (act_of u frame)
  pub writes : (u : Program) (s : State) (pick : Pick) (frame : Frame) (below : List Frame) (place : ℕ) (v : Value)
      → thread_at s pick.thread ≡ Some (running frame below) → ((step u s pick).1.kind ≡ event.Write place v) ↔ (act_of u frame ≡ to_write place v)

-- what is worked out to be no violation is safe, and nothing else
abbrev pub WhatIsNoViolationIsSafe : Type 0
WhatIsNoViolationIsSafe = (u : Program) (held : Holds) (frame : Frame) (act : Act) → (violates u held frame act ≡ false) ↔ IsSafe u held frame act

-- a turn is no violation exactly where the act of its thread is safe, and one of a thread that doesn't run is none
abbrev pub IsSafeIn : Program → State → (thread : ℕ) → Option Thread → Type 0
IsSafeIn u s t (Some (running frame below)) = IsSafe u (holds_of s t) frame (act_of u frame)
IsSafeIn u s t other = Unit {0}

abbrev pub TurnsAreSafeByTheirActs : Type 0
TurnsAreSafeByTheirActs = (u : Program) (s : State) (pick : Pick) → ((step u s pick).1.violation ≡ false) ↔ IsSafeIn u s pick.thread (thread_at s pick.thread)

-- a giving is a violation exactly where what is to be given isn't held
abbrev pub WhatIsNotHeldIsAViolation : Type 0
WhatIsNotHeldIsAViolation = (u : Program) (s : State) (thread : ℕ) (answer : ℤ) (frame : Frame) (below : List Frame) (mode : Option Mode) (lock : ℕ)
    → (violates u (holds_of s thread) frame (to_give mode lock) ≡ true) ↔ ((perform u s thread frame below answer (to_give mode lock)).1 ≡ event.NotHeld lock)

-- Where the initial values are of their cells' types, a run may open with them in the state in which threads begin well; that is a start
-- where their functions ask nothing.
pub record FirstStatesAreStarts : Type 0 where
  pub opening : (u : Program) (begins : List Begin) → All (BeginsWell u) begins → IsWellTyped u.layout (start u.layout) → Opening u (first_state u begins)
  pub start : (u : Program) (begins : List Begin) → All (BeginsWell u) begins → All (AsksNothing u) begins → IsWellTyped u.layout (start u.layout)
      → Start u (first_state u begins)
