-- Turns are atomic, and runs go turn by turn.
use Rattle.std.proofs.Common.{◌≡◌, ◌∙◌, ℕ, ◌+◌, nat_eq, nat_lt, ℤ, Bool, true, false, not, ◌||◌, List, [], ◌∷◌, ◌++◌, length, Option, Some}
use Rattle.std.proofs.Common.{None, if◌then◌else◌, suc, refl, ap, arith}
use Rattle.std.proofs.lemmas.Bool.Decides.{nat_tests}
use Rattle.std.specs.Prelude.{◌↔◌}
use Rattle.tsa_base.specs.declared.value.Value.{Value}
use Rattle.tsa_tree.specs.declared.kind.Kind.{Kind}
use Rattle.tsa_tree.specs.declared.kind.Kind.TheVariants as type
use Rattle.tsa_core.specs.Programs.{Program}
use Rattle.tsa_locks.specs.Locks.{Lock, Taking, taken, blocked, take, give, given, holds}
use Rattle.tsa_sched.specs.declared.event.Mode.{Mode}
use Rattle.tsa_sched.specs.declared.event.Mode.TheVariants.{Exclusive, Shared}
use Rattle.tsa_sched.specs.declared.event.EventKind.{EventKind}
use Rattle.tsa_sched.specs.declared.event.EventKind.TheVariants as event
use Rattle.tsa_sched.specs.declared.pick.Pick.{Pick}
use Rattle.tsa_mean.specs.Acts.{Act, act_of, to_read, to_write, to_step, to_set, to_branch, to_choose, to_take, to_try, to_give, to_ask}
use Rattle.tsa_mean.specs.Acts.{to_enter, to_leave, to_trap}
use Rattle.tsa_mean.specs.Laws.{RunsGoTurnByTurn, TurnsAreAtomic, WhatIsNotHeldIsAViolation}
use Rattle.tsa_mean.specs.Runs.{run, step, turn_of}
use Rattle.tsa_mean.specs.States.{Frame, State, Thread, running, trapped, ended, lock_at, thread_at, value_at}
use Rattle.tsa_mean.specs.Steps.{after_give, after_take, after_try, asking, frame_limit, is_reentrant_at, mode_or_held, perform}
use Rattle.tsa_mean.proofs.Reading.{turn_same}
use Rattle.tsa_mean.proofs.Turns.{either, turn_changes, turn_stays}

-- what is read is what stands there
abbrev ReadsWhatStands : State → EventKind → Type 0
ReadsWhatStands s kind = (place : ℕ) (v : Value) → kind ≡ event.Read place v → v ≡ value_at s place

same_value : {a b : ℕ} {v w : Value} → event.Read a v ≡ event.Read b w → w ≡ v
same_value e = cc

same_place : {a b : ℕ} {v w : Value} → event.Read a v ≡ event.Read b w → a ≡ b
same_place e = cc

module _ (u : Program) (s : State) (t : ℕ) (frame : Frame) (below : List Frame) where
  take_reads : (mode : Mode) (lock : ℕ) (x : Taking) → ReadsWhatStands s (after_take u s t frame below mode lock x).1
  take_reads mode lock (taken y) place v e = absurd cc
  take_reads mode lock (blocked holder) place v e = absurd cc

  try_reads : (mode : Mode) (success : Bool) (lock : ℕ) (x : Taking) → ReadsWhatStands s (after_try u s t frame below mode success lock x).1
  try_reads mode success lock (taken y) place v e = absurd cc
  try_reads mode success lock (blocked holder) place v e = absurd cc

  give_reads : (mode : Mode) (lock : ℕ) (x : Option Lock) → ReadsWhatStands s (after_give u s t frame below mode lock x).1
  give_reads mode lock (Some y) place v e = absurd cc
  give_reads mode lock None place v e = absurd cc

  ask_reads : (f : ℕ) (kind : Kind) (z : ℤ) → ReadsWhatStands s (asking u s t frame below f kind z).1
  ask_reads f type.Void z place v e = absurd cc
  ask_reads f kind z place v e = absurd cc

  perform_reads : (z : ℤ) (act : Act) → ReadsWhatStands s (perform u s t frame below z act).1
  perform_reads z (to_read cell left) = λ place v e. same_value e ∙ ap (value_at s) (same_place e)
  perform_reads z (to_write cell w) = λ place v e. absurd cc
  perform_reads z to_step = λ place v e. absurd cc
  perform_reads z (to_set n w) = λ place v e. absurd cc
  perform_reads z (to_branch b) = λ place v e. absurd cc
  perform_reads z (to_choose w) = λ place v e. absurd cc
  perform_reads z (to_take mode lock) = take_reads mode lock (take (is_reentrant_at u lock) mode t (lock_at s lock))
  perform_reads z (to_try mode success lock) = try_reads mode success lock (take (is_reentrant_at u lock) mode t (lock_at s lock))
  perform_reads z (to_give mode lock) =
      give_reads (mode_or_held u s t frame below mode lock) lock (give (mode_or_held u s t frame below mode lock) t (lock_at s lock))
  perform_reads z (to_ask f kind) = ask_reads f kind z
  perform_reads z (to_enter f args) =
      either (λ turn. ReadsWhatStands s turn.1) (nat_lt (length below + 1) frame_limit) _ _ (λ place v e. absurd cc) (λ place v e. absurd cc)
  perform_reads z (to_leave w) = λ place v e. absurd cc
  perform_reads z (to_trap kind) = λ place v e. absurd cc

turn_reads : (u : Program) (s : State) (t : ℕ) (z : ℤ) (x : Option Thread) → ReadsWhatStands s (turn_of u s t z x).1.kind
turn_reads u s t z None = λ place v e. absurd cc
turn_reads u s t z (Some ended) = λ place v e. absurd cc
turn_reads u s t z (Some (trapped frame below)) = λ place v e. absurd cc
turn_reads u s t z (Some (running frame below)) = perform_reads u s t frame below z (act_of u frame)

pub turns_are_atomic : TurnsAreAtomic
unfolding step
turns_are_atomic = record {
  changes = λ u s pick. turn_changes u s pick.thread pick.answer (thread_at s pick.thread);
  others = λ u s pick thread differs. turn_stays u s pick.thread pick.answer thread differs (thread_at s pick.thread);
  read = λ u s pick. turn_reads u s pick.thread pick.answer (thread_at s pick.thread);
  tells = λ u s pick store agree. (turn_same u s store pick.thread pick.answer (thread_at s pick.thread) agree).told;
  does = λ u s pick store agree. (turn_same u s store pick.thread pick.answer (thread_at s pick.thread) agree).threads;
  locks = λ u s pick store agree. (turn_same u s store pick.thread pick.answer (thread_at s pick.thread) agree).locks;
}

-- runs
turn_thread : (u : Program) (s : State) (t : ℕ) (z : ℤ) (x : Option Thread) → (turn_of u s t z x).1.thread ≡ t
turn_thread u s t z None = refl
turn_thread u s t z (Some ended) = refl
turn_thread u s t z (Some (trapped frame below)) = refl
turn_thread u s t z (Some (running frame below)) = refl

of_its_thread : (u : Program) (s : State) (pick : Pick) → (step u s pick).1.thread ≡ pick.thread
unfolding step
of_its_thread u s pick = turn_thread u s pick.thread pick.answer (thread_at s pick.thread)

each_turn : (u : Program) (s : State) (picks : List Pick) → length (run u s picks).1 ≡ length picks
unfolding run
each_turn u s [] = refl
each_turn u s (pick ∷ picks) = ap suc (each_turn u (step u s pick).0 picks)

state_behind : (u : Program) (s : State) (picks more : List Pick) → (run u s (picks ++ more)).0 ≡ (run u (run u s picks).0 more).0
unfolding run
state_behind u s [] more = refl
state_behind u s (pick ∷ picks) more = state_behind u (step u s pick).0 picks more

events_behind : (u : Program) (s : State) (picks more : List Pick) → (run u s (picks ++ more)).1 ≡ (run u s picks).1 ++ (run u (run u s picks).0 more).1
unfolding run
events_behind u s [] more = refl
events_behind u s (pick ∷ picks) more = ap (λ events. (step u s pick).1 ∷ events) (events_behind u (step u s pick).0 picks more)

at_its_point : (u : Program) (s : State) (pick : Pick) (frame : Frame) (below : List Frame) → thread_at s pick.thread ≡ Some (running frame below)
    → (step u s pick).1.site ≡ Some (record { function = frame.function; point = frame.point })
unfolding step
at_its_point u s pick frame below runs = ap (λ x. (turn_of u s pick.thread pick.answer x).1.site) runs

pub runs_go_turn_by_turn : RunsGoTurnByTurn
runs_go_turn_by_turn = record {
  total = λ u s pick. ((step u s pick).0, (step u s pick).1, refl);
  point = at_its_point;
  thread = of_its_thread;
  each = each_turn;
  state = state_behind;
  events = events_behind;
}

-- givings of what isn't held
none_held : (n : ℕ) → (not (nat_lt 0 n) ≡ true) ↔ (nat_eq n 0 ≡ true)
none_held n = (λ e. grind (arith, nat_tests, e), λ e. grind (arith, nat_tests, e))

module _ (u : Program) (s : State) (t : ℕ) (frame : Frame) (below : List Frame) (lock : ℕ) where
  told_by : (mode : Mode) (b : Bool) (x : Lock) → (b ≡ true) ↔ ((after_give u s t frame below mode lock (if b then None else Some x)).1 ≡ event.NotHeld lock)
  told_by mode true x = (λ e. refl, λ e. refl)
  told_by mode false x = (λ e. absurd cc, λ e. absurd cc)

  in_mode : (mode : Mode) → (not (nat_lt 0 (holds (lock_at s lock) t mode)) ≡ true)
      ↔ ((after_give u s t frame below mode lock (give mode t (lock_at s lock))).1 ≡ event.NotHeld lock)
  in_mode mode = (
    λ e. (told_by mode (nat_eq (holds (lock_at s lock) t mode) 0) (given mode t (lock_at s lock))).0 ((none_held (holds (lock_at s lock) t mode)).0 e),
    λ e. (none_held (holds (lock_at s lock) t mode)).1 ((told_by mode (nat_eq (holds (lock_at s lock) t mode) 0) (given mode t (lock_at s lock))).1 e),
  )

  -- without a mode
  in_some_mode : (b : Bool) → nat_eq (holds (lock_at s lock) t Exclusive) 0 ≡ b
      → (not (nat_lt 0 (holds (lock_at s lock) t Exclusive) || nat_lt 0 (holds (lock_at s lock) t Shared)) ≡ true)
      ↔ (not (nat_lt 0 (holds (lock_at s lock) t (if b then Shared else Exclusive))) ≡ true)
  in_some_mode true is = (λ e. grind (arith, nat_tests, e, is), λ e. grind (arith, nat_tests, e, is))
  in_some_mode false is = (λ e. grind (arith, nat_tests, e, is), λ e. grind (arith, nat_tests, e, is))

pub what_is_not_held_is_a_violation : WhatIsNotHeldIsAViolation
what_is_not_held_is_a_violation u s t z frame below (Some mode) lock = in_mode u s t frame below lock mode
what_is_not_held_is_a_violation u s t z frame below None lock =
    let says = in_some_mode u s t frame below lock (nat_eq (holds (lock_at s lock) t Exclusive) 0) refl in
    let told = in_mode u s t frame below lock (if nat_eq (holds (lock_at s lock) t Exclusive) 0 then Shared else Exclusive) in
    (λ e. told.0 (says.0 e), λ e. says.1 (told.1 e))
