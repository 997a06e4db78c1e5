-- A lock that is taken, or given back: the holds of the thread whose turn it is, and the invariant.
use Rattle.std.proofs.Common.{◌≡◌, ◌∙◌, ℕ, zero, suc, ◌+◌, ◌<◌, ◌≤◌, nat_eq, nat_lt, Bool, true, false, List, [], ◌∷◌, length, Some}
use Rattle.std.proofs.Common.{slice_set, slice_index_or, if◌then◌else◌, refl, ap, sym, subst, arith, eqb-true, ltb-true}
use Rattle.std.proofs.lemmas.Bool.Decides.{nat_tests}
use Rattle.tsa_core.specs.Programs.{Program}
use Rattle.tsa_locks.specs.Locks.{Lock, count_of, free, holds}
use Rattle.tsa_sched.specs.declared.event.Mode.{Mode}
use Rattle.tsa_sched.specs.declared.event.Mode.TheVariants.{Exclusive, Shared}
use Rattle.tsa_sched.specs.declared.event.EventKind.{EventKind}
use Rattle.tsa_sched.specs.declared.event.EventKind.TheVariants as event
use Rattle.tsa_sched.specs.declared.pick.Pick.{Pick}
use Rattle.tsa_mean.specs.Acts.{Act}
use Rattle.tsa_mean.specs.HoldLaws.{gained, lost}
use Rattle.tsa_mean.specs.Returns.{if_lock, once}
use Rattle.tsa_mean.specs.Runs.{step, turn_of}
use Rattle.tsa_mean.specs.StateLaws.{StateIsKept}
use Rattle.tsa_mean.specs.States.{Frame, State, Thread, running, holds_of, with_lock, with_thread}
use Rattle.tsa_mean.specs.Steps.{perform}
use Rattle.tsa_mean.proofs.Holds.{holds_change_as_told}
use Rattle.tsa_sound.specs.FramesFit.{ProgramRows}
use Rattle.tsa_sound.specs.Invariant.{Invariant, StackFits, ThreadFits}
use Rattle.tsa_sound.specs.Laws.{TakesTurn}
use Rattle.tsa_sound.proofs.Threads.{set_here, turned}

-- a list that is set is as long as it was, and what stands behind its end counts as nothing
set_long : {A : Type 0} (xs : List A) (i : ℕ) (x : A) → length (slice_set xs i x) ≡ length xs
set_long [] i x = refl
set_long (y ∷ ys) zero x = refl
set_long (y ∷ ys) (suc i) x = ap suc (set_long ys i x)

index_beyond : {A : Type 0} (xs : List A) (i : ℕ) (d : A) → length xs ≤ i → slice_index_or xs i d ≡ d
index_beyond [] i d l = refl
index_beyond (y ∷ ys) zero d l = absurd (omega (arith, l))
index_beyond (y ∷ ys) (suc i) d l = index_beyond ys i d (omega (arith, l))

free_holds : (t : ℕ) (mode : Mode) → holds free t mode ≡ 0
unfolding count_of
free_holds t Exclusive = refl
free_holds t Shared = refl

none_beyond : (s : State) (t l : ℕ) (mode : Mode) → length s.locks ≤ l → holds_of s t l mode ≡ 0
none_beyond s t l mode beyond = ap (λ x. holds x t mode) (index_beyond s.locks l free beyond) ∙ free_holds t mode

other_lock : (l lock n : ℕ) → lock < l → if_lock l (Some lock) n ≡ 0
other_lock l lock n less = by (nat_eq l lock) refl
  where
    by : (b : Bool) → nat_eq l lock ≡ b → (if b then n else 0) ≡ 0
    by true e = let same : l ≡ lock = eqb-true l lock e in absurd (omega (arith, less, same))
    by false e = refl

-- what is told of a turn that runs
pub told_is : (u : Program) (s : State) (pick : Pick) (act : Act) (turn : TakesTurn u s pick act)
    → (step u s pick).1.kind ≡ (perform u s pick.thread turn.frame turn.below pick.answer act).1
unfolding step
told_is u s pick act turn =
    ap (λ x. (turn_of u s pick.thread pick.answer x).1.kind) turn.runs ∙ ap (λ a. (perform u s pick.thread turn.frame turn.below pick.answer a).1) turn.does

module _ (u : Program) (s : State) (pick : Pick) (kept : StateIsKept u s) (lock : ℕ) (inside : lock < length s.locks) (y : Lock) (thread : Thread)
    (is : (step u s pick).0 ≡ with_thread (with_lock s lock y) pick.thread thread) where
  abbrev new : State
  new = with_thread (with_lock s lock y) pick.thread thread

  counted : (kind : EventKind) → (step u s pick).1.kind ≡ kind → (l : ℕ) → l < length s.locks → (mode : Mode)
      → holds_of new pick.thread l mode + lost kind l mode ≡ holds_of s pick.thread l mode + gained kind l mode
  counted kind told l less mode =
      subst (λ kind. holds_of new pick.thread l mode + lost kind l mode ≡ holds_of s pick.thread l mode + gained kind l mode) told
      (subst (λ after. holds_of after pick.thread l mode + lost (step u s pick).1.kind l mode ≡ holds_of s pick.thread l mode + gained (step u s pick).1.kind l mode) is
      (holds_change_as_told.own u s pick kept l less mode))

  new_beyond : (l : ℕ) (mode : Mode) → length s.locks ≤ l → holds_of new pick.thread l mode ≡ 0
  new_beyond l mode beyond = let long = set_long s.locks lock y in none_beyond new pick.thread l mode (omega (arith, beyond, long))

  pub took_holds : (mode : Mode) → (step u s pick).1.kind ≡ event.Took lock mode → (l : ℕ) (m : Mode)
      → holds_of new pick.thread l m ≡ holds_of s pick.thread l m + if_lock l (Some lock) (once mode m)
  took_holds mode told l m = by (nat_lt l (length s.locks)) refl
    where
      by : (b : Bool) → nat_lt l (length s.locks) ≡ b → holds_of new pick.thread l m ≡ holds_of s pick.thread l m + if_lock l (Some lock) (once mode m)
      by true e = let all = counted (event.Took lock mode) told l (ltb-true l (length s.locks) e) m in omega (arith, all)
      by false e =
          let beyond : length s.locks ≤ l = grind (arith, nat_tests) in
          let none = none_beyond s pick.thread l m beyond in
          let new_none = new_beyond l m beyond in
          let other = other_lock l lock (once mode m) (omega (arith, inside, beyond)) in
          omega (arith, none, new_none, other)

  pub tried_holds : (mode : Mode) → (step u s pick).1.kind ≡ event.Tried lock mode true → (l : ℕ) (m : Mode)
      → holds_of new pick.thread l m ≡ holds_of s pick.thread l m + if_lock l (Some lock) (once mode m)
  tried_holds mode told l m = by (nat_lt l (length s.locks)) refl
    where
      by : (b : Bool) → nat_lt l (length s.locks) ≡ b → holds_of new pick.thread l m ≡ holds_of s pick.thread l m + if_lock l (Some lock) (once mode m)
      by true e = let all = counted (event.Tried lock mode true) told l (ltb-true l (length s.locks) e) m in omega (arith, all)
      by false e =
          let beyond : length s.locks ≤ l = grind (arith, nat_tests) in
          let none = none_beyond s pick.thread l m beyond in
          let new_none = new_beyond l m beyond in
          let other = other_lock l lock (once mode m) (omega (arith, inside, beyond)) in
          omega (arith, none, new_none, other)

  pub gave_holds : (mode : Mode) → (step u s pick).1.kind ≡ event.Gave lock mode → (l : ℕ) (m : Mode)
      → holds_of new pick.thread l m + if_lock l (Some lock) (once mode m) ≡ holds_of s pick.thread l m
  gave_holds mode told l m = by (nat_lt l (length s.locks)) refl
    where
      by : (b : Bool) → nat_lt l (length s.locks) ≡ b → holds_of new pick.thread l m + if_lock l (Some lock) (once mode m) ≡ holds_of s pick.thread l m
      by true e = let all = counted (event.Gave lock mode) told l (ltb-true l (length s.locks) e) m in omega (arith, all)
      by false e =
          let beyond : length s.locks ≤ l = grind (arith, nat_tests) in
          let none = none_beyond s pick.thread l m beyond in
          let new_none = new_beyond l m beyond in
          let other = other_lock l lock (once mode m) (omega (arith, inside, beyond)) in
          omega (arith, none, new_none, other)

-- The state after a lock has changed has the invariant, where the thread whose turn it is fits what it holds then.
pub lock_turn : (u : Program) (x : ProgramRows) (s : State) (pick : Pick) (act : Act) (turn : TakesTurn u s pick act) → Invariant u x s
    → (lock : ℕ) (y : Lock) (top : Frame)
    → (step u s pick).0 ≡ with_thread (with_lock s lock y) pick.thread (running top turn.below)
    → StackFits u x (holds_of (with_thread (with_lock s lock y) pick.thread (running top turn.below)) pick.thread) top turn.below → Invariant u x (step u s pick).0
lock_turn u x s pick act turn inv lock y top is fits =
    turned u x s (with_thread (with_lock s lock y) pick.thread (running top turn.below)) pick is inv inv.typed inv.constant (set_long s.locks lock y)
    (λ other differs l m. subst (λ after. holds_of after other l m ≡ holds_of s other l m) is (holds_change_as_told.others u s pick inv.kept other differs l m))
    (subst (ThreadFits u x (holds_of (with_lock s lock y) pick.thread))
    (sym (set_here s.threads pick.thread (running turn.frame turn.below) (running top turn.below) turn.runs)) fits)
