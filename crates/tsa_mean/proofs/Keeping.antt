-- What turns keep of states.
use Rattle.std.proofs.Common.{◌≡◌, ◌∙◌, ℕ, zero, suc, ◌+◌, ◌<◌, nat_eq, nat_lt, ℤ, Bool, true, false, List, [], ◌∷◌, length, map, Option}
use Rattle.std.proofs.Common.{Some, None, slice_get, slice_index_or, slice_set, if◌then◌else◌, refl, ap, sym, subst, arith}
use Rattle.std.proofs.lemmas.Bool.{ltb-true}
use Rattle.tsa_base.specs.declared.value.Value.{Value}
use Rattle.tsa_tree.specs.declared.kind.Kind.{Kind}
use Rattle.tsa_tree.specs.declared.kind.Kind.TheVariants as type
use Rattle.tsa_place_model.specs.declared.place.Placed.{Placed}
use Rattle.tsa_core.specs.Programs.{Program}
use Rattle.tsa_locks.specs.Locks.{by_owner, free, give, given, holds, Lock, owned, owned_less, shared_by, sharer_from, take, taken, blocked}
use Rattle.tsa_locks.specs.Locks.{Taking, unless_shared}
use Rattle.tsa_sched.specs.declared.event.Mode.TheVariants.{Exclusive, Shared}
use Rattle.tsa_sched.specs.declared.event.Mode.{Mode}
use Rattle.tsa_locks.proofs.Holding.{same_some, same_taken}
use Rattle.tsa_sched.specs.declared.event.EventKind.{EventKind}
use Rattle.tsa_sched.specs.declared.event.EventKind.TheVariants as event
use Rattle.tsa_sched.specs.declared.pick.Pick.{Pick}
use Rattle.tsa_mean.specs.Acts.{Act, act_of, to_read, to_write, to_step, to_set, to_branch, to_choose, to_take, to_try, to_give, to_ask}
use Rattle.tsa_mean.specs.Acts.{to_enter, to_leave, to_trap}
use Rattle.tsa_mean.specs.Laws.{Changes}
use Rattle.tsa_mean.specs.Runs.{step, turn_of}
use Rattle.tsa_mean.specs.Sound.{Opening}
use Rattle.tsa_mean.specs.Starts.{Begin, thread_of}
use Rattle.tsa_mean.specs.StateLaws.{HasItsFrames, IsLockAt, StateIsKept, StatesAreKept}
use Rattle.tsa_mean.specs.States.{Frame, State, Thread, running, trapped, ended, lock_at, thread_at}
use Rattle.tsa_mean.specs.Steps.{after_give, after_take, after_try, asking, frame_limit, is_reentrant_at, mode_or_held, perform}
use Rattle.tsa_mean.specs.Steps.{thread_below, Turn}
use Rattle.tsa_mean.proofs.Lists.{set_keeps, set_keeps_some}
use Rattle.tsa_mean.proofs.Turns.{turn_changes}

never_blocked : {a : Lock} {b : ℕ} {A : Type 0} → blocked b ≡ taken a → A
never_blocked e = cc

never_none : {a : Lock} {A : Type 0} → None ≡ Some a → A
never_none e = cc

differ : {A : Type 0} → true ≡ false → A
differ e = cc

module _ (u : Program) (place : ℕ) where
  again : (r b : Bool) (o n : ℕ) (new : Lock) → is_reentrant_at u place ≡ r → by_owner r b o n ≡ taken new → IsLockAt u place new
  again true true o n new is e = subst (IsLockAt u place) (same_taken e) (omega arith, λ not. differ (sym is ∙ not))
  again true false o n new is e = never_blocked e
  again false b o n new is e = never_blocked e

  first : (t : ℕ) (sharer : Option ℕ) (new : Lock) → unless_shared t sharer ≡ taken new → IsLockAt u place new
  first t None new e = subst (IsLockAt u place) (same_taken e) (omega arith, λ not. refl)
  first t (Some holder) new e = never_blocked e

  take_keeps : (mode : Mode) (t : ℕ) (old new : Lock) → take (is_reentrant_at u place) mode t old ≡ taken new → IsLockAt u place new
  take_keeps Exclusive t (owned o n) new e = again (is_reentrant_at u place) (nat_eq o t) o n new refl e
  take_keeps Exclusive t (shared_by ns) new e = first t (sharer_from 0 ns) new e
  take_keeps Shared t (owned o n) new e = never_blocked e
  take_keeps Shared t (shared_by ns) new e = subst (IsLockAt u place) (same_taken e) tt

  less : (o n : ℕ) → IsLockAt u place (owned o n) → IsLockAt u place (owned_less o n)
  less o zero is = tt
  less o (suc zero) is = tt
  less o (suc (suc n)) is = (omega arith, λ not. let one : suc (suc n) ≡ 1 = is.1 not in absurd (omega (arith, one)))

  given_keeps : (mode : Mode) (t : ℕ) (old : Lock) → IsLockAt u place old → IsLockAt u place (given mode t old)
  given_keeps Exclusive t (owned o n) is = less o n is
  given_keeps Shared t (owned o n) is = is
  given_keeps Exclusive t (shared_by ns) is = tt
  given_keeps Shared t (shared_by ns) is = tt

  give_by : (mode : Mode) (t : ℕ) (old new : Lock) (b : Bool) → IsLockAt u place old → (if b then None else Some (given mode t old)) ≡ Some new → IsLockAt u place new
  give_by mode t old new true is e = never_none e
  give_by mode t old new false is e = subst (IsLockAt u place) (same_some e) (given_keeps mode t old is)

  give_keeps : (mode : Mode) (t : ℕ) (old new : Lock) → IsLockAt u place old → give mode t old ≡ Some new → IsLockAt u place new
  give_keeps mode t old new is e = give_by mode t old new (nat_eq (holds old t mode) 0) is e

-- all locks, by what the event says of them
abbrev pub AllLocks : Program → State → Type 0
AllLocks u s = (place : ℕ) → IsLockAt u place (lock_at s place)

same_locks : (u : Program) (old new : State) → new.locks ≡ old.locks → AllLocks u old → AllLocks u new
same_locks u old new same all place = subst (λ locks. IsLockAt u place (slice_index_or locks place free)) (sym same) (all place)

one_lock : (u : Program) (old new : State) (lock : ℕ) (x : Lock) → new.locks ≡ slice_set old.locks lock x → IsLockAt u lock x → AllLocks u old → AllLocks u new
one_lock u old new lock x same is all place =
    subst (λ locks. IsLockAt u place (slice_index_or locks place free)) (sym same) (set_keeps (IsLockAt u) old.locks lock x free all is place)

locks_kept : (u : Program) (t : ℕ) (old new : State) (kind : EventKind) → Changes u t old new kind → AllLocks u old → AllLocks u new
locks_kept u t old new (event.Write place v) c all = same_locks u old new c.locks all
locks_kept u t old new (event.Took lock mode) c all = one_lock u old new lock c.after c.locks (take_keeps u lock mode t (lock_at old lock) c.after c.takes) all
locks_kept u t old new (event.Tried lock mode true) c all = one_lock u old new lock c.after c.locks (take_keeps u lock mode t (lock_at old lock) c.after c.takes) all
locks_kept u t old new (event.Gave lock mode) c all = one_lock u old new lock c.after c.locks (give_keeps u lock mode t (lock_at old lock) c.after (all lock) c.gives) all
locks_kept u t old new (event.Tried lock mode false) c all = same_locks u old new c.locks all
locks_kept u t old new (event.Read place v) c all = same_locks u old new c.locks all
locks_kept u t old new (event.Waits lock holder) c all = same_locks u old new c.locks all
locks_kept u t old new (event.NotHeld lock) c all = same_locks u old new c.locks all
locks_kept u t old new (event.Environment f v) c all = same_locks u old new c.locks all
locks_kept u t old new (event.Called f) c all = same_locks u old new c.locks all
locks_kept u t old new (event.Returned f) c all = same_locks u old new c.locks all
locks_kept u t old new (event.Branched b) c all = same_locks u old new c.locks all
locks_kept u t old new (event.Switched v) c all = same_locks u old new c.locks all
locks_kept u t old new event.Stepped c all = same_locks u old new c.locks all
locks_kept u t old new (event.Trap kind) c all = same_locks u old new c.locks all
locks_kept u t old new event.AlreadyEnded c all = same_locks u old new c.locks all
locks_kept u t old new event.AlreadyTrapped c all = same_locks u old new c.locks all
locks_kept u t old new event.NoThread c all = same_locks u old new c.locks all

-- all threads
abbrev AllThreads : State → Type 0
AllThreads s = (thread : ℕ) → HasItsFrames (thread_at s thread)

module _ (u : Program) (s : State) (t : ℕ) (frame : Frame) (below : List Frame) (few : length below < frame_limit) (all : AllThreads s) where
  set_thread : (x : Thread) → HasItsFrames (Some x) → (thread : ℕ) → HasItsFrames (slice_get (slice_set s.threads t x) thread)
  set_thread x fits = set_keeps_some HasItsFrames s.threads t x all fits

  take_frames : (mode : Mode) (lock : ℕ) (x : Taking) → AllThreads (after_take u s t frame below mode lock x).0
  take_frames mode lock (taken y) = set_thread _ few
  take_frames mode lock (blocked holder) = all

  try_frames : (mode : Mode) (success : Bool) (lock : ℕ) (x : Taking) → AllThreads (after_try u s t frame below mode success lock x).0
  try_frames mode success lock (taken y) = set_thread _ few
  try_frames mode success lock (blocked holder) = set_thread _ few

  give_frames : (mode : Mode) (lock : ℕ) (x : Option Lock) → AllThreads (after_give u s t frame below mode lock x).0
  give_frames mode lock (Some y) = set_thread _ few
  give_frames mode lock None = set_thread _ few

  ask_frames : (f : ℕ) (kind : Kind) (z : ℤ) → AllThreads (asking u s t frame below f kind z).0
  ask_frames f type.Void z = set_thread _ few
  ask_frames f kind z = set_thread _ few

  below_fits : (v : Value) (frames : List Frame) → length frames < frame_limit → HasItsFrames (Some (thread_below u s t frame below v frames))
  below_fits v [] fits = tt
  below_fits v (x ∷ rest) fits = omega (arith, fits)

  enter_by : (b : Bool) (one other : Turn) → (b ≡ true → AllThreads one.0) → AllThreads other.0 → AllThreads (if b then one else other).0
  enter_by true one other first second = first refl
  enter_by false one other first second = second

  one_more : (n : ℕ) → nat_lt (n + 1) frame_limit ≡ true → suc n < frame_limit
  one_more n e = omega (arith, ltb-true (n + 1) frame_limit e)

  perform_frames : (z : ℤ) (act : Act) → AllThreads (perform u s t frame below z act).0
  perform_frames z (to_read place left) = set_thread _ few
  perform_frames z (to_write place v) = set_thread _ few
  perform_frames z to_step = set_thread _ few
  perform_frames z (to_set n v) = set_thread _ few
  perform_frames z (to_branch b) = set_thread _ few
  perform_frames z (to_choose v) = set_thread _ few
  perform_frames z (to_take mode lock) = take_frames mode lock (take (is_reentrant_at u lock) mode t (lock_at s lock))
  perform_frames z (to_try mode success lock) = try_frames mode success lock (take (is_reentrant_at u lock) mode t (lock_at s lock))
  perform_frames z (to_give mode lock) =
      give_frames (mode_or_held u s t frame below mode lock) lock (give (mode_or_held u s t frame below mode lock) t (lock_at s lock))
  perform_frames z (to_ask f kind) = ask_frames f kind z
  perform_frames z (to_enter f args) =
      enter_by (nat_lt (length below + 1) frame_limit) _ _ (λ e. set_thread _ (one_more (length below) e)) (set_thread _ few)
  perform_frames z (to_leave v) = set_thread _ (below_fits v below few)
  perform_frames z (to_trap kind) = set_thread _ few

turn_frames : (u : Program) (s : State) (t : ℕ) (z : ℤ) (x : Option Thread) → HasItsFrames x → AllThreads s → AllThreads (turn_of u s t z x).0
turn_frames u s t z None fits all = all
turn_frames u s t z (Some ended) fits all = all
turn_frames u s t z (Some (trapped frame below)) fits all = all
turn_frames u s t z (Some (running frame below)) fits all = perform_frames u s t frame below fits all z (act_of u frame)

-- starts
all_free : (places : List Placed) (place : ℕ) → slice_index_or (map (λ p. free) places) place free ≡ free
all_free [] place = refl
all_free (p ∷ places) zero = refl
all_free (p ∷ places) (suc place) = all_free places place

all_begin : (u : Program) (begins : List Begin) (thread : ℕ) → HasItsFrames (slice_get (map (thread_of u) begins) thread)
all_begin u [] thread = tt
all_begin u (b ∷ begins) zero = omega arith
all_begin u (b ∷ begins) (suc thread) = all_begin u begins thread

opening_is_kept : (u : Program) (s : State) → Opening u s → StateIsKept u s
opening_is_kept u s opening = record {
  locks = λ place. subst (IsLockAt u place) (sym (ap (λ locks. slice_index_or locks place free) opening.locks ∙ all_free u.layout.places place)) tt;
  frames = λ thread. subst (λ threads. HasItsFrames (slice_get threads thread)) (sym opening.threads) (all_begin u opening.begins thread);
}

turn_is_kept : (u : Program) (s : State) (pick : Pick) → StateIsKept u s → StateIsKept u (step u s pick).0
unfolding step
turn_is_kept u s pick is = record {
  locks = locks_kept u pick.thread s _ _ (turn_changes u s pick.thread pick.answer (thread_at s pick.thread)) is.locks;
  frames = turn_frames u s pick.thread pick.answer (thread_at s pick.thread) (is.frames pick.thread) is.frames;
}

pub states_are_kept : StatesAreKept
states_are_kept = record { opening = opening_is_kept; turn = turn_is_kept }
