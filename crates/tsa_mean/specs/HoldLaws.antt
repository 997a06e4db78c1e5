-- What turns do to the holds of threads: what their events tell, and nothing else.
use Rattle.std.specs.Prelude.{◌≡◌, ℕ, ◌+◌, ◌<◌, true, Some, length}
use Rattle.tsa_core.specs.Programs.{Program}
use Rattle.tsa_sched.specs.declared.event.Mode.{Mode}
use Rattle.tsa_sched.specs.declared.event.EventKind.{EventKind}
use Rattle.tsa_sched.specs.declared.event.EventKind.TheVariants as event
use Rattle.tsa_sched.specs.declared.pick.Pick.{Pick}
use Rattle.tsa_mean.specs.Returns.{if_lock, once}
use Rattle.tsa_mean.specs.Runs.{step}
use Rattle.tsa_mean.specs.StateLaws.{StateIsKept}
use Rattle.tsa_mean.specs.States.{State, holds_of}

-- how many holds of a lock in a mode an event takes, and how many it gives back
abbrev pub gained : EventKind → (lock : ℕ) → Mode → ℕ
gained (event.Took l m) lock mode = if_lock lock (Some l) (once m mode)
gained (event.Tried l m true) lock mode = if_lock lock (Some l) (once m mode)
gained kind lock mode = 0

abbrev pub lost : EventKind → (lock : ℕ) → Mode → ℕ
lost (event.Gave l m) lock mode = if_lock lock (Some l) (once m mode)
lost kind lock mode = 0

pub record HoldsChangeAsTold : Type 0 where
  pub own : (u : Program) (s : State) (pick : Pick) → StateIsKept u s → (lock : ℕ) → lock < length s.locks → (mode : Mode)
      → holds_of (step u s pick).0 pick.thread lock mode + lost (step u s pick).1.kind lock mode
      ≡ holds_of s pick.thread lock mode + gained (step u s pick).1.kind lock mode
  pub others : (u : Program) (s : State) (pick : Pick) → StateIsKept u s → (thread : ℕ) → (thread ≡ pick.thread → ⊥) → (lock : ℕ) (mode : Mode)
      → holds_of (step u s pick).0 thread lock mode ≡ holds_of s thread lock mode
