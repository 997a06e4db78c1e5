-- Turns that change neither the store nor a lock, and leave the frames as they were.
use Rattle.std.proofs.Common.{◌≡◌, ℕ, ℤ, false, List, Option, Some, None, refl, ap, sym, subst}
use Rattle.tsa_core.specs.Programs.{Program}
use Rattle.tsa_sched.specs.declared.event.EventKind.{EventKind}
use Rattle.tsa_sched.specs.declared.event.EventKind.TheVariants as event
use Rattle.tsa_sched.specs.declared.pick.Pick.{Pick}
use Rattle.tsa_locks.specs.Locks.{Lock, give}
use Rattle.tsa_sched.specs.declared.event.Mode.{Mode}
use Rattle.tsa_mean.specs.Acts.{Act, act_of, to_read, to_write, to_step, to_set, to_branch, to_choose, to_take, to_try, to_give, to_ask}
use Rattle.tsa_mean.specs.Acts.{to_enter, to_leave, to_trap}
use Rattle.tsa_mean.specs.Runs.{idle, step, turn_of}
use Rattle.tsa_mean.specs.States.{Frame, State, Thread, running, trapped, ended, holds_of, lock_at, thread_at}
use Rattle.tsa_mean.specs.Steps.{after_give, mode_or_held, perform}
use Rattle.tsa_mean.specs.Violations.{violates}
use Rattle.tsa_mean.proofs.Turns.{nothing_is_done_where_none_runs, nothing_is_done_while_waiting}
use Rattle.tsa_sound.specs.FramesFit.{ProgramRows}
use Rattle.tsa_sound.specs.Invariant.{Invariant}
use Rattle.tsa_sound.specs.Laws.{DoesNotRun, GoesWell, IsTrap, ThreadsThatDoNotRunGoWell, TurnsGoWell, WaitsGoWell}
use Rattle.tsa_sound.proofs.Threads.{before_turn, own_turn, safe_by_act}

-- a turn in which nothing is done
of_idle : (u : Program) (x : ProgramRows) (s : State) (pick : Pick) (kind : EventKind) → Invariant u x s → step u s pick ≡ idle s pick.thread kind → GoesWell u x s pick
of_idle u x s pick kind inv is = record {
  kept = subst (λ turn. Invariant u x turn.0) (sym is) inv;
  safe = ap (λ turn. turn.1.violation) is;
}

pub threads_that_do_not_run_go_well : ThreadsThatDoNotRunGoWell
threads_that_do_not_run_go_well u x s pick inv not = by (thread_at s pick.thread) refl not
  where
    by : (thread : Option Thread) → thread_at s pick.thread ≡ thread → DoesNotRun thread → GoesWell u x s pick
    by None is not = of_idle u x s pick event.NoThread inv (nothing_is_done_where_none_runs.absent u s pick is)
    by (Some ended) is not = of_idle u x s pick event.AlreadyEnded inv (nothing_is_done_where_none_runs.over u s pick is)
    by (Some (trapped frame below)) is not = of_idle u x s pick event.AlreadyTrapped inv (nothing_is_done_where_none_runs.stopped u s pick frame below is)
    by (Some (running frame below)) is not = absurd not

-- only a taking waits, and that is no violation
module _ (u : Program) (s : State) (t : ℕ) (frame : Frame) (below : List Frame) (lock holder : ℕ) where
  not_given : (mode : Mode) (at : ℕ) (x : Option Lock) → (after_give u s t frame below mode at x).1 ≡ event.Waits lock holder → ⊥
  not_given mode at None e = cc
  not_given mode at (Some y) e = cc

  only_takings_wait : (z : ℤ) (act : Act) → (perform u s t frame below z act).1 ≡ event.Waits lock holder → violates u (holds_of s t) frame act ≡ false
  only_takings_wait z (to_read place left) e = absurd cc
  only_takings_wait z (to_write place v) e = absurd cc
  only_takings_wait z to_step e = refl
  only_takings_wait z (to_set n v) e = refl
  only_takings_wait z (to_branch b) e = refl
  only_takings_wait z (to_choose v) e = refl
  only_takings_wait z (to_take mode at) e = refl
  only_takings_wait z (to_try mode success at) e = refl
  only_takings_wait z (to_give mode at) e =
      absurd (not_given (mode_or_held u s t frame below mode at) at (give (mode_or_held u s t frame below mode at) t (lock_at s at)) e)
  only_takings_wait z (to_ask f kind) e = refl
  only_takings_wait z (to_enter f args) e = refl
  only_takings_wait z (to_leave v) e = absurd cc
  only_takings_wait z (to_trap kind) e = refl

waits_safe : (u : Program) (s : State) (t : ℕ) (z : ℤ) (lock holder : ℕ) (thread : Option Thread) → (turn_of u s t z thread).1.kind ≡ event.Waits lock holder
    → (turn_of u s t z thread).1.violation ≡ false
waits_safe u s t z lock holder None e = refl
waits_safe u s t z lock holder (Some ended) e = refl
waits_safe u s t z lock holder (Some (trapped frame below)) e = refl
waits_safe u s t z lock holder (Some (running frame below)) e = only_takings_wait u s t frame below lock holder z (act_of u frame) e

pub waits_go_well : WaitsGoWell
unfolding step
waits_go_well u x s pick lock holder inv waits = record {
  kept = subst (Invariant u x) (sym (nothing_is_done_while_waiting.same u s pick lock holder waits)) inv;
  safe = waits_safe u s pick.thread pick.answer lock holder (thread_at s pick.thread) waits;
}

-- a trap stops the thread with its frames as they were
pub traps_go_well : TurnsGoWell IsTrap
traps_go_well u x s pick (to_trap kind) facts inv turn is = record {
  kept = own_turn u x s pick (to_trap kind) turn (trapped turn.frame turn.below) inv refl (before_turn u x s pick (to_trap kind) turn inv);
  safe = safe_by_act u s pick (to_trap kind) turn tt;
}
traps_go_well u x s pick act facts inv turn is = absurd is
