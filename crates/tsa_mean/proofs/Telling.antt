-- What a turn tells of the act of its thread.
use Rattle.std.proofs.Common.{◌≡◌, ◌∙◌, ◌↔◌, ℕ, ◌+◌, nat_lt, ℤ, Bool, false, List, length, Option, Some, None, refl, ap, sym, subst}
use Rattle.tsa_base.specs.declared.value.Value.{Value}
use Rattle.tsa_tree.specs.declared.kind.Kind.{Kind}
use Rattle.tsa_tree.specs.declared.kind.Kind.TheVariants as type
use Rattle.tsa_core.specs.Programs.{Program}
use Rattle.tsa_locks.specs.Locks.{Lock, Taking, taken, blocked, take, give}
use Rattle.tsa_sched.specs.declared.event.Mode.{Mode}
use Rattle.tsa_sched.specs.declared.event.EventKind.{EventKind}
use Rattle.tsa_sched.specs.declared.event.EventKind.TheVariants as event
use Rattle.tsa_mean.specs.Acts.{Act, act_of, to_read, to_write, to_step, to_set, to_branch, to_choose, to_take, to_try, to_give, to_ask}
use Rattle.tsa_mean.specs.Acts.{to_enter, to_leave, to_trap, touched_cell}
use Rattle.tsa_mean.specs.Laws.{cell_in, IsSafeIn, TurnsAreSafeByTheirActs, TurnsTellTheirActs}
use Rattle.tsa_mean.specs.Runs.{step, turn_of}
use Rattle.tsa_mean.specs.States.{Frame, State, Thread, running, trapped, ended, holds_of, lock_at, thread_at}
use Rattle.tsa_mean.specs.Steps.{after_give, after_take, after_try, asking, frame_limit, is_reentrant_at, mode_or_held, perform, Turn}
use Rattle.tsa_mean.proofs.Safety.{what_is_no_violation_is_safe}
use Rattle.tsa_mean.proofs.Turns.{either}

-- an event that touches no cell
abbrev NoCell : Turn → Type 0
NoCell turn = cell_in turn.1 ≡ None

module _ (u : Program) (s : State) (t : ℕ) (frame : Frame) (below : List Frame) where
  take_none : (mode : Mode) (lock : ℕ) (x : Taking) → NoCell (after_take u s t frame below mode lock x)
  take_none mode lock (taken y) = refl
  take_none mode lock (blocked holder) = refl

  try_none : (mode : Mode) (success : Bool) (lock : ℕ) (x : Taking) → NoCell (after_try u s t frame below mode success lock x)
  try_none mode success lock (taken y) = refl
  try_none mode success lock (blocked holder) = refl

  give_none : (mode : Mode) (lock : ℕ) (x : Option Lock) → NoCell (after_give u s t frame below mode lock x)
  give_none mode lock (Some y) = refl
  give_none mode lock None = refl

  ask_none : (f : ℕ) (kind : Kind) (z : ℤ) → NoCell (asking u s t frame below f kind z)
  ask_none f type.Void z = refl
  ask_none f kind z = refl

  perform_cell : (z : ℤ) (act : Act) → cell_in (perform u s t frame below z act).1 ≡ touched_cell act
  perform_cell z (to_read place left) = refl
  perform_cell z (to_write place v) = refl
  perform_cell z to_step = refl
  perform_cell z (to_set n v) = refl
  perform_cell z (to_branch b) = refl
  perform_cell z (to_choose v) = refl
  perform_cell z (to_take mode lock) = take_none mode lock (take (is_reentrant_at u lock) mode t (lock_at s lock))
  perform_cell z (to_try mode success lock) = try_none mode success lock (take (is_reentrant_at u lock) mode t (lock_at s lock))
  perform_cell z (to_give mode lock) = give_none (mode_or_held u s t frame below mode lock) lock (give (mode_or_held u s t frame below mode lock) t (lock_at s lock))
  perform_cell z (to_ask f kind) = ask_none f kind z
  perform_cell z (to_enter f args) = either NoCell (nat_lt (length below + 1) frame_limit) _ _ refl refl
  perform_cell z (to_leave v) = refl
  perform_cell z (to_trap kind) = refl

  -- what is written is what the act writes
  untouched : {A : Type 0} (kind : EventKind) (place : ℕ) (v : Value) → kind ≡ event.Write place v → None ≡ cell_in kind → A
  untouched kind place v e none = absurd (missing (none ∙ ap cell_in e))
    where
      missing : {n : ℕ} → None ≡ Some n → ⊥
      missing e = cc

  told : (z : ℤ) (act : Act) (place : ℕ) (v : Value) → (perform u s t frame below z act).1 ≡ event.Write place v → act ≡ to_write place v
  told z (to_read cell left) place v e = absurd cc
  told z (to_write cell w) place v e = cc
  told z to_step place v e = untouched _ place v e (sym (perform_cell z to_step))
  told z (to_set n w) place v e = untouched _ place v e (sym (perform_cell z (to_set n w)))
  told z (to_branch b) place v e = untouched _ place v e (sym (perform_cell z (to_branch b)))
  told z (to_choose w) place v e = untouched _ place v e (sym (perform_cell z (to_choose w)))
  told z (to_take mode lock) place v e = untouched _ place v e (sym (perform_cell z (to_take mode lock)))
  told z (to_try mode success lock) place v e = untouched _ place v e (sym (perform_cell z (to_try mode success lock)))
  told z (to_give mode lock) place v e = untouched _ place v e (sym (perform_cell z (to_give mode lock)))
  told z (to_ask f kind) place v e = untouched _ place v e (sym (perform_cell z (to_ask f kind)))
  told z (to_enter f args) place v e = untouched _ place v e (sym (perform_cell z (to_enter f args)))
  told z (to_leave w) place v e = untouched _ place v e (sym (perform_cell z (to_leave w)))
  told z (to_trap kind) place v e = untouched _ place v e (sym (perform_cell z (to_trap kind)))

  writes : (z : ℤ) (act : Act) (place : ℕ) (v : Value) → ((perform u s t frame below z act).1 ≡ event.Write place v) ↔ (act ≡ to_write place v)
  writes z act place v = (told z act place v, λ e. ap (λ a. (perform u s t frame below z a).1) e)

pub turns_tell_their_acts : TurnsTellTheirActs
unfolding step
turns_tell_their_acts = record {
  touches = λ u s pick frame below runs.
      ap (λ x. cell_in (turn_of u s pick.thread pick.answer x).1.kind) runs ∙ perform_cell u s pick.thread frame below pick.answer (act_of u frame);
  writes = λ u s pick frame below place v runs.
      subst (λ x. ((turn_of u s pick.thread pick.answer x).1.kind ≡ event.Write place v) ↔ (act_of u frame ≡ to_write place v)) (sym runs)
      (writes u s pick.thread frame below pick.answer (act_of u frame) place v);
}

turn_is_safe : (u : Program) (s : State) (t : ℕ) (z : ℤ) (x : Option Thread) → ((turn_of u s t z x).1.violation ≡ false) ↔ IsSafeIn u s t x
turn_is_safe u s t z None = (λ e. tt, λ x. refl)
turn_is_safe u s t z (Some ended) = (λ e. tt, λ x. refl)
turn_is_safe u s t z (Some (trapped frame below)) = (λ e. tt, λ x. refl)
turn_is_safe u s t z (Some (running frame below)) = what_is_no_violation_is_safe u (holds_of s t) frame (act_of u frame)

pub turns_are_safe_by_their_acts : TurnsAreSafeByTheirActs
unfolding step
turns_are_safe_by_their_acts u s pick = turn_is_safe u s pick.thread pick.answer (thread_at s pick.thread)
