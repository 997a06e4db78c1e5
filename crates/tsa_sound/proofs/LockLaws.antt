-- Locks are taken, tried and given back: the invariant is kept, and only what is held is given back.
use Rattle.std.proofs.Common.{◌≡◌, ◌∙◌, ℕ, ◌+◌, ◌<◌, Bool, true, false, not, List, length, Option, Some, refl, ap, sym, subst, arith}
use Rattle.tsa_core.specs.Programs.{Attr, Program}
use Rattle.tsa_path.specs.Values.{of_truth}
use Rattle.tsa_rules.specs.declared.status.Status.{Status}
use Rattle.tsa_rules.specs.Effects.{exit_by, exit_with, is_success, same_answer}
use Rattle.tsa_rules.specs.Points.{function_at}
use Rattle.tsa_locks.specs.Locks.{Lock, Taking, blocked, given, take, taken}
use Rattle.tsa_sched.specs.declared.event.Mode.{Mode}
use Rattle.tsa_sched.specs.declared.event.EventKind.TheVariants as event
use Rattle.tsa_sched.specs.declared.pick.Pick.{Pick}
use Rattle.tsa_mean.specs.Acts.{Act, point_of, to_give, to_take, to_try}
use Rattle.tsa_mean.specs.Frames.{frame_with_answer}
use Rattle.tsa_mean.specs.Returns.{if_lock}
use Rattle.tsa_mean.specs.Runs.{step}
use Rattle.tsa_mean.specs.States.{Frame, Holds, State, running, holds_of, lock_at, with_lock, with_thread}
use Rattle.tsa_mean.specs.Steps.{after_give, after_take, after_try, giving, is_reentrant_at, perform}
use Rattle.tsa_sound.specs.Facts.{FunctionFacts, ProgramFacts}
use Rattle.tsa_sound.specs.FramesFit.{ProgramRows, owned_below, owned_by_caller}
use Rattle.tsa_sound.specs.Invariant.{Invariant, StackFits}
use Rattle.tsa_sound.specs.Laws.{GoesWell, IsGive, IsTake, IsTry, TakesTurn, TurnsGoWell}
use Rattle.tsa_sound.specs.SettledStatuses.{units}
use Rattle.tsa_sound.proofs.CallComes.{CallSource, IsOfCall, IsOutsideAct, LockCall, OutsideSource, called_by, of_same, on_a_lock}
use Rattle.tsa_sound.proofs.CallComes.{on_nothing, outside}
use Rattle.tsa_sound.proofs.IdleTurns.{waits_go_well}
use Rattle.tsa_sound.proofs.LockActs.{GivesOne, IsGiving, IsTaking, IsTrying, can_be_given, give_back, give_is_not, gives_as, gives_held}
use Rattle.tsa_sound.proofs.LockActs.{gives_one, here_is, missed_back, mode_is, once_self, other_success, same_success, take_back}
use Rattle.tsa_sound.proofs.LockActs.{take_handed, take_is_not, takes_as, tries_as, try_back, try_handed, try_is_not}
use Rattle.tsa_sound.proofs.LockCalls.{answered_here, calls, fits_here, lock_inside, owned_here, status_here}
use Rattle.tsa_sound.proofs.LocksChange.{gave_holds, lock_turn, told_is, took_holds, tried_holds}
use Rattle.tsa_sound.proofs.Sums.{no_hold}
use Rattle.tsa_sound.proofs.Tables.{handed}
use Rattle.tsa_sound.proofs.Threads.{before_turn, own_turn, safe_by_act, turn_is}

-- a turn whose act is one of a function without a body
module _ (u : Program) (x : ProgramRows) (s : State) (pick : Pick) (facts : ProgramFacts u x) (inv : Invariant u x s) (act : Act) (turn : TakesTurn u s pick act)
    (of : IsOfCall act) where
  abbrev held : Holds
  held = holds_of s pick.thread

  abbrev frame : Frame
  frame = turn.frame

  abbrev below : List Frame
  below = turn.below

  abbrev fits : StackFits u x (holds_of s pick.thread) turn.frame turn.below
  fits = before_turn u x s pick act turn inv

  abbrev function : FunctionFacts u x turn.frame.function
  function = facts.functions turn.frame.function (before_turn u x s pick act turn inv).top.with_body

  abbrev source : CallSource u turn.frame.locals (point_of u turn.frame).call turn.frame.work act
  source = called_by u turn.frame act turn.does of

  abbrev called : ℕ
  called = source.made.function

  called_outside : IsOutsideAct act → OutsideSource source.made.function (function_at u source.made.function) source.values act
  called_outside is = outside called (function_at u called) source.values act is (calls u x held frame below function facts.laid fits act source).outside source.does

  -- which is a lock function
  module _ (at : ℕ) (call : LockCall (function_at u source.made.function) source.values at) where
    abbrev a : Attr
    a = call.attribute

    abbrev now : Status
    now = status_here u x held frame below function facts.laid fits act source at call

    inside : at < length s.locks
    inside = subst (λ n. at < n) (sym inv.enough) (lock_inside u x held frame below function facts.laid fits act source at call)

    before : (l : ℕ) (m : Mode) → held l m ≡ owned_by_caller u x frame l m + if_lock l (Some at) (units (handed (Some a.kind) now) m) + owned_below u x below l m
    before = owned_here u x held frame below function facts.laid fits act source at call

    -- the frame goes on with what is held then
    goes_on : (b : Bool) (after : Holds)
        → ((l : ℕ) (m : Mode) → after l m ≡ owned_by_caller u x frame l m + if_lock l (Some at) (units (exit_with (Some b) (Some a)) m) + owned_below u x below l m)
        → StackFits u x after (frame_with_answer u frame (of_truth b)) below
    goes_on = answered_here u x held frame below function facts.laid fits act source at call

    -- and so does the thread, with a lock that has changed
    goes_changed : (b : Bool) (y : Lock) → (step u s pick).0 ≡ with_thread (with_lock s at y) pick.thread (running (frame_with_answer u frame (of_truth b)) below)
        → ((l : ℕ) (m : Mode) → holds_of (with_lock s at y) pick.thread l m
        ≡ owned_by_caller u x frame l m + if_lock l (Some at) (units (exit_with (Some b) (Some a)) m) + owned_below u x below l m)
        → Invariant u x (step u s pick).0
    goes_changed b y is sum = lock_turn u x s pick act turn inv at y (frame_with_answer u frame (of_truth b)) is
        (goes_on b (holds_of (with_lock s at y) pick.thread) sum)

module _ (u : Program) (x : ProgramRows) (s : State) (pick : Pick) (facts : ProgramFacts u x) (inv : Invariant u x s) (mode : Mode) (at : ℕ)
    (turn : TakesTurn u s pick (to_take mode at)) where
  abbrev taker : CallSource u turn.frame.locals (point_of u turn.frame).call turn.frame.work (to_take mode at)
  taker = called_by u turn.frame (to_take mode at) turn.does tt

  module _ (y : Lock) (e : take (is_reentrant_at u at) mode pick.thread (lock_at s at) ≡ taken y) where
    took : (step u s pick).0 ≡ with_thread (with_lock s at y) pick.thread (running (frame_with_answer u turn.frame (of_truth false)) turn.below)
    took = turn_is u s pick (to_take mode at) turn ∙ ap (λ r. (after_take u s pick.thread turn.frame turn.below mode at r).0) e

    took_told : (step u s pick).1.kind ≡ event.Took at mode
    took_told = told_is u s pick (to_take mode at) turn ∙ ap (λ r. (after_take u s pick.thread turn.frame turn.below mode at r).1) e

    taken_here : (call : LockCall (function_at u taker.made.function) taker.values at) → IsTaking call.attribute.kind mode → Invariant u x (step u s pick).0
    taken_here call taking = goes_changed u x s pick facts inv (to_take mode at) turn tt at call false y took (λ l m.
        let all = before u x s pick facts inv (to_take mode at) turn tt at call l m in
        let none = ap (if_lock l (Some at)) (take_handed call.attribute.kind mode (now u x s pick facts inv (to_take mode at) turn tt at call) taking m) in
        let back = ap (if_lock l (Some at)) (take_back call.attribute.kind mode (is_success call.attribute.success (Some false)) taking m) in
        let zero = no_hold l (Some at) in
        let more = took_holds u s pick inv.kept at (inside u x s pick facts inv (to_take mode at) turn tt at call) y
        (running (frame_with_answer u turn.frame (of_truth false)) turn.below) took mode took_told l m in
        omega (arith, all, none, back, zero, more))

  taken_by : (result : Taking) → take (is_reentrant_at u at) mode pick.thread (lock_at s at) ≡ result
      → OutsideSource taker.made.function (function_at u taker.made.function) taker.values (to_take mode at) → Invariant u x (step u s pick).0
  taken_by (blocked holder) e out = (waits_go_well u x s pick at holder inv
      (told_is u s pick (to_take mode at) turn ∙ ap (λ r. (after_take u s pick.thread turn.frame turn.below mode at r).1) e)).kept
  taken_by (taken y) e (on_nothing all gives does) = take_is_not mode at _ (λ h. h) does
  taken_by (taken y) e (on_a_lock lock call does) =
      let taking = takes_as call.attribute.kind call.attribute.success lock taker.made.function (function_at u taker.made.function).result mode at call.changes does in
      taken_here y e (of_same at taking.1 call) taking.0

pub takings_go_well : TurnsGoWell IsTake
takings_go_well u x s pick (to_take mode at) facts inv turn is = record {
  kept = taken_by u x s pick facts inv mode at turn (take (is_reentrant_at u at) mode pick.thread (lock_at s at)) refl
      (called_outside u x s pick facts inv (to_take mode at) turn tt tt);
  safe = safe_by_act u s pick (to_take mode at) turn tt;
}
takings_go_well u x s pick act facts inv turn is = absurd is

module _ (u : Program) (x : ProgramRows) (s : State) (pick : Pick) (facts : ProgramFacts u x) (inv : Invariant u x s) (mode : Mode) (success : Bool) (at : ℕ)
    (turn : TakesTurn u s pick (to_try mode success at)) where
  abbrev trier : CallSource u turn.frame.locals (point_of u turn.frame).call turn.frame.work (to_try mode success at)
  trier = called_by u turn.frame (to_try mode success at) turn.does tt

  -- before the try nothing of it is held
  none_before : (call : LockCall (function_at u trier.made.function) trier.values at) → IsTrying call.attribute.kind mode → (l : ℕ) (m : Mode)
      → holds_of s pick.thread l m ≡ owned_by_caller u x turn.frame l m + owned_below u x turn.below l m
  none_before call trying l m =
      let all = before u x s pick facts inv (to_try mode success at) turn tt at call l m in
      let none = ap (if_lock l (Some at)) (try_handed call.attribute.kind mode (now u x s pick facts inv (to_try mode success at) turn tt at call) trying m) in
      let zero = no_hold l (Some at) in
      omega (arith, all, none, zero)

  module _ (y : Lock) (e : take (is_reentrant_at u at) mode pick.thread (lock_at s at) ≡ taken y) where
    tried : (step u s pick).0 ≡ with_thread (with_lock s at y) pick.thread (running (frame_with_answer u turn.frame (of_truth success)) turn.below)
    tried = turn_is u s pick (to_try mode success at) turn ∙ ap (λ r. (after_try u s pick.thread turn.frame turn.below mode success at r).0) e

    tried_told : (step u s pick).1.kind ≡ event.Tried at mode true
    tried_told = told_is u s pick (to_try mode success at) turn ∙ ap (λ r. (after_try u s pick.thread turn.frame turn.below mode success at r).1) e

    tried_here : (call : LockCall (function_at u trier.made.function) trier.values at) → IsTrying call.attribute.kind mode → success ≡ call.attribute.success
        → Invariant u x (step u s pick).0
    tried_here call trying same = goes_changed u x s pick facts inv (to_try mode success at) turn tt at call success y tried (λ l m.
        let none = none_before call trying l m in
        let back = ap (if_lock l (Some at)) (ap (λ t. units (exit_by t (Some call.attribute.kind)) m) (ap (same_answer call.attribute.success) same
        ∙ same_success call.attribute.success)
        ∙ try_back call.attribute.kind mode trying m) in
        let more = tried_holds u s pick inv.kept at (inside u x s pick facts inv (to_try mode success at) turn tt at call) y
        (running (frame_with_answer u turn.frame (of_truth success)) turn.below) tried mode tried_told l m in
        omega (arith, none, back, more))

  -- where it fails all is held as before
  missed_here : (holder : ℕ) → take (is_reentrant_at u at) mode pick.thread (lock_at s at) ≡ blocked holder
      → (call : LockCall (function_at u trier.made.function) trier.values at)
      → IsTrying call.attribute.kind mode → success ≡ call.attribute.success → Invariant u x (step u s pick).0
  missed_here holder e call trying same =
      own_turn u x s pick (to_try mode success at) turn (running (frame_with_answer u turn.frame (of_truth (not success))) turn.below) inv
      (ap (λ r. (after_try u s pick.thread turn.frame turn.below mode success at r).0) e)
      (goes_on u x s pick facts inv (to_try mode success at) turn tt at call (not success) (holds_of s pick.thread) (λ l m.
      let none = none_before call trying l m in
      let back = ap (if_lock l (Some at))
      (ap (λ t. units (exit_by t (Some call.attribute.kind)) m) (ap (λ b. same_answer call.attribute.success (not b)) same ∙ other_success call.attribute.success)
      ∙ missed_back call.attribute.kind mode trying m) in
      let zero = no_hold l (Some at) in
      omega (arith, none, back, zero)))

  tried_by : (result : Taking) → take (is_reentrant_at u at) mode pick.thread (lock_at s at) ≡ result
      → OutsideSource trier.made.function (function_at u trier.made.function) trier.values (to_try mode success at) → Invariant u x (step u s pick).0
  tried_by result e (on_nothing all gives does) = try_is_not mode success at _ (λ h. h) does
  tried_by result e (on_a_lock lock call does) =
      of result e (tries_as call.attribute.kind call.attribute.success lock trier.made.function
      (function_at u trier.made.function).result mode success at call.changes does)
    where
      of : (result : Taking) → take (is_reentrant_at u at) mode pick.thread (lock_at s at) ≡ result
          → IsTrying call.attribute.kind mode × (success ≡ call.attribute.success) × (at ≡ lock)
          → Invariant u x (step u s pick).0
      of (taken y) e trying = tried_here y e (of_same at trying.2 call) trying.0 trying.1
      of (blocked holder) e trying = missed_here holder e (of_same at trying.2 call) trying.0 trying.1

pub tries_go_well : TurnsGoWell IsTry
tries_go_well u x s pick (to_try mode success at) facts inv turn is = record {
  kept = tried_by u x s pick facts inv mode success at turn (take (is_reentrant_at u at) mode pick.thread (lock_at s at)) refl
      (called_outside u x s pick facts inv (to_try mode success at) turn tt tt);
  safe = safe_by_act u s pick (to_try mode success at) turn tt;
}
tries_go_well u x s pick act facts inv turn is = absurd is

module _ (u : Program) (x : ProgramRows) (s : State) (pick : Pick) (facts : ProgramFacts u x) (inv : Invariant u x s) (mode : Option Mode) (at : ℕ)
    (turn : TakesTurn u s pick (to_give mode at)) where
  abbrev giver : CallSource u turn.frame.locals (point_of u turn.frame).call turn.frame.work (to_give mode at)
  giver = called_by u turn.frame (to_give mode at) turn.does tt

  module _ (call : LockCall (function_at u giver.made.function) giver.values at) (kind : IsGiving call.attribute.kind mode) where
    abbrev had : Status
    had = now u x s pick facts inv (to_give mode at) turn tt at call

    all_before : (l : ℕ) (m : Mode) → holds_of s pick.thread l m
        ≡ owned_by_caller u x turn.frame l m + if_lock l (Some at) (units (handed (Some call.attribute.kind) had) m) + owned_below u x turn.below l m
    all_before = before u x s pick facts inv (to_give mode at) turn tt at call

    one : GivesOne call.attribute.kind mode had
    one = gives_one _ call.attribute.kind mode had kind (fits_here u x (holds_of s pick.thread) turn.frame turn.below
        (function u x s pick facts inv (to_give mode at) turn tt) facts.laid
        (fits u x s pick facts inv (to_give mode at) turn tt) (to_give mode at) giver at call)

    -- the thread has such a hold
    has_one : 0 < holds_of s pick.thread at one.m
    has_one =
        let all = all_before at one.m in
        let is : if_lock at (Some at) (units (handed (Some call.attribute.kind) had) one.m) ≡ if_lock at (Some at) 1 = ap (if_lock at (Some at)) (one.one one.m
        ∙ once_self one.m) in
        let single = here_is at 1 in
        omega (arith, all, is, single)

    abbrev left : Lock
    left = given one.m pick.thread (lock_at s at)

    performs : perform u s pick.thread turn.frame turn.below pick.answer (to_give mode at) ≡ after_give u s pick.thread turn.frame turn.below one.m at (Some left)
    performs = ap (giving u s pick.thread turn.frame turn.below at) (mode_is mode one.m u s pick.thread turn.frame turn.below at one.of_mode has_one)
        ∙ ap (after_give u s pick.thread turn.frame turn.below one.m at) (gives_held one.m pick.thread (lock_at s at) has_one)

    gave : (step u s pick).0 ≡ with_thread (with_lock s at left) pick.thread (running (frame_with_answer u turn.frame (of_truth false)) turn.below)
    gave = turn_is u s pick (to_give mode at) turn ∙ ap (λ r. r.0) performs

    gave_told : (step u s pick).1.kind ≡ event.Gave at one.m
    gave_told = told_is u s pick (to_give mode at) turn ∙ ap (λ r. r.1) performs

    given_here : GoesWell u x s pick
    given_here = record {
      kept = goes_changed u x s pick facts inv (to_give mode at) turn tt at call false left gave (λ l m.
          let all = all_before l m in
          let same = ap (if_lock l (Some at)) (one.one m) in
          let back = ap (if_lock l (Some at)) (give_back call.attribute.kind mode (is_success call.attribute.success (Some false)) kind m) in
          let zero = no_hold l (Some at) in
          let less = gave_holds u s pick inv.kept at (inside u x s pick facts inv (to_give mode at) turn tt at call) left
          (running (frame_with_answer u turn.frame (of_truth false)) turn.below) gave one.m gave_told l m in
          omega (arith, all, same, back, zero, less));
      safe = safe_by_act u s pick (to_give mode at) turn (can_be_given (holds_of s pick.thread) mode one.m at one.of_mode has_one);
    }

  given_by : OutsideSource giver.made.function (function_at u giver.made.function) giver.values (to_give mode at) → GoesWell u x s pick
  given_by (on_nothing all gives does) = give_is_not mode at _ (λ h. h) does
  given_by (on_a_lock lock call does) =
      let giving = gives_as call.attribute.kind call.attribute.success lock giver.made.function (function_at u giver.made.function).result mode at call.changes does in
      given_here (of_same at giving.1 call) giving.0

pub givings_go_well : TurnsGoWell IsGive
givings_go_well u x s pick (to_give mode at) facts inv turn is = given_by u x s pick facts inv mode at turn
    (called_outside u x s pick facts inv (to_give mode at) turn tt tt)
givings_go_well u x s pick act facts inv turn is = absurd is
