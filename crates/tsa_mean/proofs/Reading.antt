-- A turn over another store that agrees on the cell that it reads.
use Rattle.std.proofs.Common.{◌≡◌, ℕ, ◌+◌, nat_lt, ℤ, Bool, true, false, List, length, Option, Some, None, if◌then◌else◌, slice_set, refl}
use Rattle.std.proofs.Common.{ap}
use Rattle.tsa_base.specs.declared.value.Value.{Value}
use Rattle.tsa_tree.specs.declared.kind.Kind.{Kind}
use Rattle.tsa_tree.specs.declared.kind.Kind.TheVariants as type
use Rattle.tsa_core.specs.Programs.{Program}
use Rattle.tsa_locks.specs.Locks.{Lock, Taking, taken, blocked, take, give}
use Rattle.tsa_sched.specs.declared.event.Mode.{Mode}
use Rattle.tsa_sched.specs.declared.event.Event.{Event}
use Rattle.tsa_sched.specs.declared.event.EventKind.TheVariants as event
use Rattle.tsa_mean.specs.Acts.{Act, act_of, to_read, to_write, to_step, to_set, to_branch, to_choose, to_take, to_try, to_give, to_ask}
use Rattle.tsa_mean.specs.Acts.{to_enter, to_leave, to_trap}
use Rattle.tsa_mean.specs.Frames.{with_work}
use Rattle.tsa_mean.specs.Laws.{AgreeOn, over}
use Rattle.tsa_mean.specs.Runs.{event_at, turn_of}
use Rattle.tsa_mean.specs.States.{Frame, State, Thread, running, trapped, ended, holds_of, lock_at}
use Rattle.tsa_mean.specs.Steps.{after_give, after_take, after_try, asking, frame_limit, is_reentrant_at, mode_or_held, perform, Turn}
use Rattle.tsa_mean.specs.Violations.{violates}

-- the same is told and done, but for the store
record Same (turn other : Turn) : Type 0 where
  pub kind : turn.1 ≡ other.1
  pub threads : turn.0.threads ≡ other.0.threads
  pub locks : turn.0.locks ≡ other.0.locks

pub record SameTurn (turn other : State × Event) : Type 0 where
  pub told : turn.1 ≡ other.1
  pub threads : turn.0.threads ≡ other.0.threads
  pub locks : turn.0.locks ≡ other.0.locks

either_same : (b : Bool) (one other one' other' : Turn) → Same one one' → Same other other' → Same (if b then one else other) (if b then one' else other')
either_same true one other one' other' first second = first
either_same false one other one' other' first second = second

module _ (u : Program) (s : State) (store : List Value) (t : ℕ) (frame : Frame) (below : List Frame) where
  take_same : (mode : Mode) (lock : ℕ) (x : Taking) → Same (after_take u (over s store) t frame below mode lock x) (after_take u s t frame below mode lock x)
  take_same mode lock (taken y) = record { kind = refl; threads = refl; locks = refl }
  take_same mode lock (blocked holder) = record { kind = refl; threads = refl; locks = refl }

  try_same : (mode : Mode) (success : Bool) (lock : ℕ) (x : Taking)
      → Same (after_try u (over s store) t frame below mode success lock x) (after_try u s t frame below mode success lock x)
  try_same mode success lock (taken y) = record { kind = refl; threads = refl; locks = refl }
  try_same mode success lock (blocked holder) = record { kind = refl; threads = refl; locks = refl }

  give_same : (mode : Mode) (lock : ℕ) (x : Option Lock) → Same (after_give u (over s store) t frame below mode lock x) (after_give u s t frame below mode lock x)
  give_same mode lock (Some y) = record { kind = refl; threads = refl; locks = refl }
  give_same mode lock None = record { kind = refl; threads = refl; locks = refl }

  ask_same : (f : ℕ) (kind : Kind) (z : ℤ) → Same (asking u (over s store) t frame below f kind z) (asking u s t frame below f kind z)
  ask_same f type.Void z = record { kind = refl; threads = refl; locks = refl }
  ask_same f kind z = record { kind = refl; threads = refl; locks = refl }

  perform_same : (z : ℤ) (act : Act) → AgreeOn (perform u s t frame below z act).1 s (over s store)
      → Same (perform u (over s store) t frame below z act) (perform u s t frame below z act)
  perform_same z (to_read place left) e = record {
    kind = ap (event.Read place) e;
    threads = ap (λ v. slice_set s.threads t (running (with_work frame (left v)) below)) e;
    locks = refl;
  }
  perform_same z (to_write place v) e = record { kind = refl; threads = refl; locks = refl }
  perform_same z to_step e = record { kind = refl; threads = refl; locks = refl }
  perform_same z (to_set n v) e = record { kind = refl; threads = refl; locks = refl }
  perform_same z (to_branch b) e = record { kind = refl; threads = refl; locks = refl }
  perform_same z (to_choose v) e = record { kind = refl; threads = refl; locks = refl }
  perform_same z (to_take mode lock) e = take_same mode lock (take (is_reentrant_at u lock) mode t (lock_at s lock))
  perform_same z (to_try mode success lock) e = try_same mode success lock (take (is_reentrant_at u lock) mode t (lock_at s lock))
  perform_same z (to_give mode lock) e =
      give_same (mode_or_held u s t frame below mode lock) lock (give (mode_or_held u s t frame below mode lock) t (lock_at s lock))
  perform_same z (to_ask f kind) e = ask_same f kind z
  perform_same z (to_enter f args) e = either_same (nat_lt (length below + 1) frame_limit) _ _ _ _
      (record { kind = refl; threads = refl; locks = refl }) (record { kind = refl; threads = refl; locks = refl })
  perform_same z (to_leave v) e = record { kind = refl; threads = refl; locks = refl }
  perform_same z (to_trap kind) e = record { kind = refl; threads = refl; locks = refl }

pub turn_same : (u : Program) (s : State) (store : List Value) (t : ℕ) (z : ℤ) (x : Option Thread) → AgreeOn (turn_of u s t z x).1.kind s (over s store)
    → SameTurn (turn_of u (over s store) t z x) (turn_of u s t z x)
turn_same u s store t z None e = record { told = refl; threads = refl; locks = refl }
turn_same u s store t z (Some ended) e = record { told = refl; threads = refl; locks = refl }
turn_same u s store t z (Some (trapped frame below)) e = record { told = refl; threads = refl; locks = refl }
turn_same u s store t z (Some (running frame below)) e =
    let same = perform_same u s store t frame below z (act_of u frame) e in
    record { told = ap (λ kind. event_at frame t kind (violates u (holds_of s t) frame (act_of u frame))) same.kind; threads = same.threads; locks = same.locks }
