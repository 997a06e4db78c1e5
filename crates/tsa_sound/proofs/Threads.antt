-- A turn of one thread, and the invariant of all others.
use Rattle.std.proofs.Common.{◌≡◌, ◌∙◌, ℕ, zero, suc, false, List, [], ◌∷◌, length, Option, Some, None, slice_get, slice_set, refl, ap, sym}
use Rattle.std.proofs.Common.{subst}
use Rattle.std.proofs.Math.Decide.{ℕ_discrete}
use Rattle.tsa_core.specs.Programs.{Program}
use Rattle.tsa_place_model.specs.Stores.{IsWellTyped}
use Rattle.tsa_path.specs.ArgumentLaws.{KeepsConst}
use Rattle.tsa_sched.specs.declared.event.Mode.{Mode}
use Rattle.tsa_sched.specs.declared.pick.Pick.{Pick}
use Rattle.tsa_mean.specs.Acts.{Act}
use Rattle.tsa_mean.specs.Laws.{IsSafeIn}
use Rattle.tsa_mean.specs.Runs.{step, turn_of}
use Rattle.tsa_mean.specs.Safe.{IsSafe}
use Rattle.tsa_mean.specs.StateLaws.{StateIsKept}
use Rattle.tsa_mean.specs.States.{Holds, State, Thread, running, trapped, ended, holds_of, thread_at, value_at, with_thread}
use Rattle.tsa_mean.specs.Steps.{perform}
use Rattle.tsa_mean.proofs.Keeping.{states_are_kept}
use Rattle.tsa_mean.proofs.Telling.{turns_are_safe_by_their_acts}
use Rattle.tsa_mean.proofs.Turns.{turn_stays}
use Rattle.tsa_sound.specs.FramesFit.{ProgramRows}
use Rattle.tsa_sound.specs.Invariant.{Invariant, StackFits, ThreadFits}
use Rattle.tsa_sound.specs.Laws.{TakesTurn}

-- what stands where a list is set
pub set_here : {A : Type 0} (xs : List A) (i : ℕ) (old new : A) → slice_get xs i ≡ Some old → slice_get (slice_set xs i new) i ≡ Some new
set_here [] i old new is = absurd (missing is)
  where
    missing : {A : Type 0} {a : A} → ◌≡◌ {A = Option A} None (Some a) → ⊥
    missing e = cc
set_here (y ∷ ys) zero old new is = refl
set_here (y ∷ ys) (suc i) old new is = set_here ys i old new is

-- what a thread of the same holds is asked is the same
pub held_alike : (u : Program) (x : ProgramRows) (old new : Holds) → ((lock : ℕ) (mode : Mode) → new lock mode ≡ old lock mode) → (thread : Option Thread)
    → ThreadFits u x old thread → ThreadFits u x new thread
held_alike u x old new same None fits = fits
held_alike u x old new same (Some ended) fits = fits
held_alike u x old new same (Some (running frame below)) fits =
    record { top = fits.top; work = fits.work; lower = fits.lower; sum = λ lock mode. same lock mode ∙ fits.sum lock mode }
held_alike u x old new same (Some (trapped frame below)) fits =
    record { top = fits.top; work = fits.work; lower = fits.lower; sum = λ lock mode. same lock mode ∙ fits.sum lock mode }

-- a turn of a thread that runs is what its act does
pub turn_is : (u : Program) (s : State) (pick : Pick) (act : Act) (turn : TakesTurn u s pick act)
    → (step u s pick).0 ≡ (perform u s pick.thread turn.frame turn.below pick.answer act).0
unfolding step
turn_is u s pick act turn =
    ap (λ x. (turn_of u s pick.thread pick.answer x).0) turn.runs ∙ ap (λ a. (perform u s pick.thread turn.frame turn.below pick.answer a).0) turn.does

others_stay : (u : Program) (s : State) (pick : Pick) (other : ℕ) → (other ≡ pick.thread → ⊥) → thread_at (step u s pick).0 other ≡ thread_at s other
unfolding step
others_stay u s pick other differs = turn_stays u s pick.thread pick.answer other differs (thread_at s pick.thread)

-- a turn is no violation where its act is safe
pub safe_by_act : (u : Program) (s : State) (pick : Pick) (act : Act) (turn : TakesTurn u s pick act) → IsSafe u (holds_of s pick.thread) turn.frame act
    → (step u s pick).1.violation ≡ false
safe_by_act u s pick act turn safe =
    (turns_are_safe_by_their_acts u s pick).1 (subst (IsSafeIn u s pick.thread) (sym turn.runs) (subst (IsSafe u (holds_of s pick.thread) turn.frame) (sym turn.does) safe))

-- The state after a turn has the invariant, where store and consts are as they should be, the locks are as many, the other threads hold
-- what they held, and the one whose turn it is fits what it holds now.
pub turned : (u : Program) (x : ProgramRows) (s new : State) (pick : Pick) → (step u s pick).0 ≡ new → Invariant u x s
    → IsWellTyped u.layout (value_at new) → KeepsConst u.layout (value_at new) → length new.locks ≡ length s.locks
    → ((other : ℕ) → (other ≡ pick.thread → ⊥) → (lock : ℕ) (mode : Mode) → holds_of new other lock mode ≡ holds_of s other lock mode)
    → ThreadFits u x (holds_of new pick.thread) (thread_at new pick.thread) → Invariant u x (step u s pick).0
turned u x s new pick is inv typed constant enough held own = subst (Invariant u x) (sym is) (record {
  typed = typed;
  constant = constant;
  enough = enough ∙ inv.enough;
  kept = subst (StateIsKept u) is (states_are_kept.turn u s pick inv.kept);
  threads = λ thread. elim (ℕ_discrete thread pick.thread) [
    | yes same ↦ subst (λ t. ThreadFits u x (holds_of new t) (thread_at new t)) (sym same) own
    | no other ↦ subst (ThreadFits u x (holds_of new thread)) (sym (ap (λ n. thread_at n thread) (sym is) ∙ others_stay u s pick thread other))
        (held_alike u x (holds_of s thread) (holds_of new thread) (held thread other) (thread_at s thread) (inv.threads thread))
  ];
})

-- what the thread whose turn it is was asked before
pub before_turn : (u : Program) (x : ProgramRows) (s : State) (pick : Pick) (act : Act) (turn : TakesTurn u s pick act) → Invariant u x s
    → StackFits u x (holds_of s pick.thread) turn.frame turn.below
before_turn u x s pick act turn inv = subst (ThreadFits u x (holds_of s pick.thread)) turn.runs (inv.threads pick.thread)

-- a turn that changes its own thread alone, which fits the same holds
pub own_turn : (u : Program) (x : ProgramRows) (s : State) (pick : Pick) (act : Act) (turn : TakesTurn u s pick act) (thread : Thread) → Invariant u x s
    → (perform u s pick.thread turn.frame turn.below pick.answer act).0 ≡ with_thread s pick.thread thread
    → ThreadFits u x (holds_of s pick.thread) (Some thread) → Invariant u x (step u s pick).0
own_turn u x s pick act turn thread inv does fits =
    turned u x s (with_thread s pick.thread thread) pick (turn_is u s pick act turn ∙ does) inv inv.typed inv.constant refl (λ other differs lock mode. refl)
    (subst (ThreadFits u x (holds_of s pick.thread)) (sym (set_here s.threads pick.thread (running turn.frame turn.below) thread turn.runs)) fits)
