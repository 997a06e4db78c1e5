-- What the table does with a lock is the machine's act.
use Rattle.std.proofs.Common.{◌≡◌, ◌∙◌, ℕ, ℤ, Bool, true, false, not, List, Option, Some, None, slice_set, refl, sym, ap, subst}
use Rattle.tsa_core.specs.Programs.{Program}
use Rattle.tsa_locks.specs.Locks.{Lock, Mode, give, take}
use Rattle.tsa_locks.specs.Locks as lock
use Rattle.tsa_locks.specs.Tables.{GiveAnyAnswers}
use Rattle.tsa_locks.specs.TableStates.{GivesIn, InRange, lock_in, StandFor, TakesIn}
use Rattle.tsa_locks.specs.declared.table.Giving.TheVariants as giving
use Rattle.tsa_locks.specs.declared.table.LockTable.{LockTable}
use Rattle.tsa_locks.specs.declared.table.Taking.TheVariants.{Done, Waits}
use Rattle.tsa_locks.proofs.TableStates.{the_table_is_the_state}
use Rattle.tsa_path.specs.Values.{of_truth}
use Rattle.tsa_sched.specs.declared.event.EventKind.TheVariants as event
use Rattle.tsa_mean.specs.Frames.{frame_with_answer}
use Rattle.tsa_mean.specs.States.{Frame, State, running, lock_at, with_lock, with_thread}
use Rattle.tsa_mean.specs.Steps.{after_give, after_take, after_try, is_reentrant_at, perform}
use Rattle.tsa_exec_locks.specs.Acts.{act_at_lock}
use Rattle.tsa_exec_locks.specs.Changes.{GivesBackIn, mode_asked}
use Rattle.tsa_exec_locks.specs.Turns.{TurnsAs}
use Rattle.tsa_exec_locks.specs.declared.act.LockAct.TheVariants as act

-- a giving in whichever mode is one in the mode that the machine chooses
pub gave_any : (old new : LockTable) (l t : ℕ) (answer : Option Mode) (all : List Lock) → InRange old l t → StandFor old all → GiveAnyAnswers old l t answer new → GivesBackIn None (lock_in all l) t answer new all l
gave_any old new l t (Some m) all h st a = let is = the_table_is_the_state.gives_any old new all l t (Some m) h st a in
    (is.0, subst (λ k. GivesIn (give k t (lock_in all l)) giving.Done new all l) (sym is.0) is.1)
gave_any old new l t None all h st a = the_table_is_the_state.gives_any old new all l t None h st a

module _ (u : Program) (s : State) (t : ℕ) (z : ℤ) (frame : Frame) (below : List Frame) (new : LockTable) (l : ℕ) where
  -- the lock as the machine has it, taken by the thread in a mode
  abbrev taking : Mode → lock.Taking
  taking mode = take (is_reentrant_at u l) mode t (lock_at s l)

  pub take_done : (mode : Mode) (out : lock.Taking) → taking mode ≡ out → TakesIn out Done new s.locks l
      → TurnsAs u s t z frame below (act.Take mode) l (record { event = event.Took l mode; answer = Some false }) new
  take_done mode (lock.taken x) e a = record { locks_after = slice_set s.locks l x; stands = a; performs = ap (after_take u s t frame below mode l) e }
  take_done mode (lock.blocked h) e a = absurd a

  pub take_waits : (mode : Mode) (out : lock.Taking) (w : ℕ) → taking mode ≡ out → TakesIn out (Waits w) new s.locks l
      → TurnsAs u s t z frame below (act.Take mode) l (record { event = event.Waits l w; answer = None }) new
  take_waits mode (lock.taken x) w e a = absurd a
  take_waits mode (lock.blocked h) w e a = record { locks_after = s.locks; stands = a.1; performs = ap (after_take u s t frame below mode l) e ∙ ap (λ k. (s, event.Waits l k)) a.0 }

  pub try_done : (mode : Mode) (success : Bool) (out : lock.Taking) → taking mode ≡ out → TakesIn out Done new s.locks l
      → TurnsAs u s t z frame below (act.Try mode success) l (record { event = event.Tried l mode true; answer = Some success }) new
  try_done mode success (lock.taken x) e a = record { locks_after = slice_set s.locks l x; stands = a; performs = ap (after_try u s t frame below mode success l) e }
  try_done mode success (lock.blocked h) e a = absurd a

  pub try_fails : (mode : Mode) (success : Bool) (out : lock.Taking) (w : ℕ) → taking mode ≡ out → TakesIn out (Waits w) new s.locks l
      → TurnsAs u s t z frame below (act.Try mode success) l (record { event = event.Tried l mode false; answer = Some (not success) }) new
  try_fails mode success (lock.taken x) w e a = absurd a
  try_fails mode success (lock.blocked h) w e a = record { locks_after = s.locks; stands = a.1; performs = ap (after_try u s t frame below mode success l) e }

  -- in which mode the machine gives the lock back, and what comes of that
  abbrev mode_back : Option Mode → Mode
  mode_back mode = mode_asked mode t (lock_at s l)

  abbrev back : Option Mode → Option Lock
  back mode = give (mode_back mode) t (lock_at s l)

  giving_is : (mode : Option Mode) → perform u s t frame below z (act_at_lock (act.Give mode) l) ≡ after_give u s t frame below (mode_back mode) l (back mode)
  giving_is None = refl
  giving_is (Some m) = refl

  given_back : (mode : Option Mode) (m : Mode) (out : Option Lock) → back mode ≡ out → mode_back mode ≡ m → GivesIn out giving.Done new s.locks l
      → TurnsAs u s t z frame below (act.Give mode) l (record { event = event.Gave l m; answer = Some false }) new
  given_back mode m (Some x) e is a = record {
    locks_after = slice_set s.locks l x;
    stands = a;
    performs = giving_is mode ∙ (ap (after_give u s t frame below (mode_back mode) l) e
        ∙ ap (λ k. (with_thread (with_lock s l x) t (running (frame_with_answer u frame (of_truth false)) below), event.Gave l k)) is);
  }
  given_back mode m None e is a = absurd a

  kept : (mode : Option Mode) (out : Option Lock) → back mode ≡ out → GivesIn out giving.NotHeld new s.locks l
      → TurnsAs u s t z frame below (act.Give mode) l (record { event = event.NotHeld l; answer = Some false }) new
  kept mode (Some x) e a = absurd a
  kept mode None e a = record { locks_after = s.locks; stands = a; performs = giving_is mode ∙ ap (after_give u s t frame below (mode_back mode) l) e }

  pub give_done : (mode : Option Mode) (m : Mode) → GivesBackIn mode (lock_at s l) t (Some m) new s.locks l
      → TurnsAs u s t z frame below (act.Give mode) l (record { event = event.Gave l m; answer = Some false }) new
  give_done mode m a = given_back mode m (back mode) refl a.0 a.1

  pub give_fails : (mode : Option Mode) → GivesBackIn mode (lock_at s l) t None new s.locks l
      → TurnsAs u s t z frame below (act.Give mode) l (record { event = event.NotHeld l; answer = Some false }) new
  give_fails mode a = kept mode (back mode) refl a
