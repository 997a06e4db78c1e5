-- Calls of the environment: what is required stays held, and the frame goes on with an answer.
use Rattle.std.proofs.Common.{◌≡◌, ◌∙◌, ℕ, zero, suc, ◌+◌, ◌<◌, Bool, true, false, List, [], ◌∷◌, length, Option, Some, slice_index_or}
use Rattle.std.proofs.Common.{refl, ap, sym, subst, arith}
use Rattle.std.specs.List.{list_any}
use Rattle.std.specs.Prelude.{All, Contains, IsSome}
use Rattle.tsa_base.specs.declared.value.Value.{Value}
use Rattle.tsa_tree.specs.declared.attr.AttrKind.{AttrKind}
use Rattle.tsa_tree.specs.declared.attr.AttrKind.TheVariants as attr
use Rattle.tsa_tree.specs.declared.kind.Kind.{Kind}
use Rattle.tsa_tree.specs.declared.kind.Kind.TheVariants as type
use Rattle.tsa_tree.specs.declared.number.Number.TheVariants as numeral
use Rattle.tsa_place_model.specs.Ways.{Way}
use Rattle.tsa_place_model.specs.Items as cell
use Rattle.tsa_core.specs.Kinds.{scalar_kind}
use Rattle.tsa_core.specs.Programs.{Attr, Program}
use Rattle.tsa_place_model.specs.Stores.{is_value_of}
use Rattle.tsa_path.specs.Values.{of_truth}
use Rattle.tsa_rules.specs.declared.status.Status.TheVariants.{Free}
use Rattle.tsa_rules.specs.Attributes.{all_as_called, as_called, is_try}
use Rattle.tsa_rules.specs.Effects.{entry_by, exit_by, exit_with, is_taken_by}
use Rattle.tsa_rules.specs.Points.{attrs_at, attrs_called, function_at, is_a_try, uses_at}
use Rattle.tsa_sched.specs.declared.event.Mode.{Mode}
use Rattle.tsa_sched.specs.declared.pick.Pick.{Pick}
use Rattle.tsa_mean.specs.Acts.{Act, changes_lock, on_lock, point_of, to_ask}
use Rattle.tsa_mean.specs.Frames.{frame_with_answer}
use Rattle.tsa_mean.specs.Returns.{if_lock}
use Rattle.tsa_mean.specs.Runs.{step}
use Rattle.tsa_mean.specs.Sound.{IsPick}
use Rattle.tsa_mean.specs.States.{Frame, Holds, State, running, holds_of}
use Rattle.tsa_mean.specs.Steps.{perform}
use Rattle.tsa_mean.proofs.Lists.{all_first, all_more, all_none, all_rest}
use Rattle.tsa_sound.specs.CallFacts.{GivesNumber}
use Rattle.tsa_sound.specs.Facts.{FunctionFacts, ProgramFacts}
use Rattle.tsa_sound.specs.FramesFit.{ProgramRows, function_of, owned_below, owned_by_caller}
use Rattle.tsa_sound.specs.Invariant.{Invariant, StackFits}
use Rattle.tsa_sound.specs.Laws.{EnvironmentCallsGoWell, IsAsk, TakesTurn}
use Rattle.tsa_sound.specs.SettledStatuses.{answer_held, lock_named, units}
use Rattle.tsa_sound.proofs.CallAnswers.{AnswerFits}
use Rattle.tsa_sound.proofs.AnsweredCalls.{answered}
use Rattle.tsa_sound.proofs.CallComes.{CallSource, OutsideSource, called_by, on_a_lock, on_nothing, outside}
use Rattle.tsa_sound.proofs.Claims.{holds_named}
use Rattle.tsa_sound.proofs.Constants.{differ}
use Rattle.tsa_sound.proofs.EntryLocks.{entry_lock}
use Rattle.tsa_sound.proofs.LockCalls.{calls, sum_before, top_before}
use Rattle.tsa_sound.proofs.NumbersStay.{int_fits, unsigned_fits}
use Rattle.tsa_sound.proofs.Sums.{total_same}
use Rattle.tsa_sound.proofs.Threads.{before_turn, own_turn, safe_by_act}
use Rattle.tsa_sound.proofs.Transfer.{IsGeneric, all_at, owned_before}

-- an attribute that changes no lock
no_exit : (kind : AttrKind) (t : Bool) → changes_lock kind ≡ false → exit_by t (Some kind) ≡ entry_by (Some kind)
no_exit attr.Requires t e = refl
no_exit attr.RequiresShared t e = refl
no_exit attr.Capability t e = refl
no_exit attr.GuardedBy t e = refl
no_exit attr.Excludes t e = refl
no_exit attr.AcquiredBefore t e = refl
no_exit attr.AcquiredAfter t e = refl
no_exit attr.Acquire t e = differ (sym e)
no_exit attr.AcquireShared t e = differ (sym e)
no_exit attr.TryAcquire t e = differ (sym e)
no_exit attr.TryAcquireShared t e = differ (sym e)
no_exit attr.Release t e = differ (sym e)
no_exit attr.ReleaseShared t e = differ (sym e)
no_exit attr.ReleaseGeneric t e = differ (sym e)

module _ (u : Program) (x : ProgramRows) (frame : Frame) (facts : FunctionFacts u x frame.function)
    (listed : (x.rows frame.function).has_point frame.point ≡ true) where
  no_generic : (kind : AttrKind) → changes_lock kind ≡ false → IsGeneric u x frame facts listed kind → ⊥
  no_generic attr.ReleaseGeneric e is = differ (sym e)
  no_generic attr.Requires e is = is
  no_generic attr.RequiresShared e is = is
  no_generic attr.Capability e is = is
  no_generic attr.GuardedBy e is = is
  no_generic attr.Excludes e is = is
  no_generic attr.AcquiredBefore e is = is
  no_generic attr.AcquiredAfter e is = is
  no_generic attr.Acquire e is = is
  no_generic attr.AcquireShared e is = is
  no_generic attr.TryAcquire e is = is
  no_generic attr.TryAcquireShared e is = is
  no_generic attr.Release e is = is
  no_generic attr.ReleaseShared e is = is

no_try : (kind : AttrKind) → changes_lock kind ≡ false → is_try kind ≡ false
no_try attr.TryAcquire e = differ (sym e)
no_try attr.TryAcquireShared e = differ (sym e)
no_try kind e = refl

none_tries : (ats : List Attr) → All (λ a. changes_lock a.kind ≡ false) ats → list_any (λ a. is_try a.kind) ats ≡ false
none_tries [] all = refl
none_tries (a ∷ rest) all =
    let here : is_try a.kind ≡ false = no_try a.kind (all_first (λ a. changes_lock a.kind ≡ false) a rest all) in
    let more : list_any (λ a. is_try a.kind) rest ≡ false = none_tries rest (all_rest (λ a. changes_lock a.kind ≡ false) a rest all) in
    cc

all_called : (args : List (Option Way)) (ats : List Attr) → All (λ a. changes_lock a.kind ≡ false) ats → All (λ a. changes_lock a.kind ≡ false) (all_as_called args ats)
all_called args [] all = all_none (λ a. changes_lock a.kind ≡ false)
all_called args (a ∷ rest) all = all_more (λ a. changes_lock a.kind ≡ false) (as_called args a) (all_as_called args rest)
    (all_first (λ a. changes_lock a.kind ≡ false) a rest all)
    (all_called args rest (all_rest (λ a. changes_lock a.kind ≡ false) a rest all))

all_from : {A : Type 0} (P Q : A → Type 0) → ((x : A) → Q x → P x) → (xs : List A) → All Q xs → All P xs
all_from P Q each [] all = all_none P
all_from P Q each (x ∷ xs) all = all_more P x xs (each x (all_first Q x xs all)) (all_from P Q each xs (all_rest Q x xs all))

same_ask : (m n : ℕ) (k l : Kind) → to_ask m k ≡ to_ask n l → k ≡ l
same_ask m n k l e = cc

ask_is_not : {A : Type 0} (n : ℕ) (k : Kind) (act : Act) → (IsAsk act → ⊥) → to_ask n k ≡ act → A
ask_is_not n k act not e = absurd (not (subst IsAsk e tt))

-- no lock function asks
no_asking : {A : Type 0} (kind : AttrKind) (success : Bool) (lock m n : ℕ) (k l : Kind) → changes_lock kind ≡ true
    → to_ask m k ≡ on_lock kind success lock (to_ask n l) → A
no_asking attr.Acquire success lock m n k l c e = ask_is_not m k _ (λ h. h) e
no_asking attr.AcquireShared success lock m n k l c e = ask_is_not m k _ (λ h. h) e
no_asking attr.TryAcquire success lock m n k l c e = ask_is_not m k _ (λ h. h) e
no_asking attr.TryAcquireShared success lock m n k l c e = ask_is_not m k _ (λ h. h) e
no_asking attr.Release success lock m n k l c e = ask_is_not m k _ (λ h. h) e
no_asking attr.ReleaseShared success lock m n k l c e = ask_is_not m k _ (λ h. h) e
no_asking attr.ReleaseGeneric success lock m n k l c e = ask_is_not m k _ (λ h. h) e
no_asking kind success lock m n k l c e = differ c

module _ (u : Program) (x : ProgramRows) (s : State) (pick : Pick) (is_pick : IsPick pick) (facts : ProgramFacts u x) (inv : Invariant u x s) (n : ℕ) (result : Kind)
    (turn : TakesTurn u s pick (to_ask n result)) where
  abbrev held : Holds
  held = holds_of s pick.thread

  abbrev fits : StackFits u x (holds_of s pick.thread) turn.frame turn.below
  fits = before_turn u x s pick (to_ask n result) turn inv

  abbrev function : FunctionFacts u x turn.frame.function
  function = facts.functions turn.frame.function (before_turn u x s pick (to_ask n result) turn inv).top.with_body

  abbrev source : CallSource u turn.frame.locals (point_of u turn.frame).call turn.frame.work (to_ask n result)
  source = called_by u turn.frame (to_ask n result) turn.does tt

  abbrev ats : List Attr
  ats = attrs_at u (function_of u turn.frame) turn.frame.point

  module _ (all : All (λ a. changes_lock a.kind ≡ false) (function_at u source.made.function).attrs) where
    all_here : All (λ a. changes_lock a.kind ≡ false) ats
    all_here = subst (λ call. All (λ a. changes_lock a.kind ≡ false) (all_as_called (uses_at (function_of u turn.frame) turn.frame.point).arguments
        (attrs_called u call))) (sym source.there)
        (all_called (uses_at (function_of u turn.frame) turn.frame.point).arguments (function_at u source.made.function).attrs all)

    same_exit : (answer : Option Bool) (a : Attr) → Contains ats a → exit_with answer (Some a) ≡ entry_by (Some a.kind)
    same_exit answer a i = no_exit a.kind (is_taken_by answer (Some a)) (all_at (λ a. changes_lock a.kind ≡ false) ats a all_here i)

    -- what the attributes stand for stays
    sum_here : (answer : Option Bool) (l : ℕ) (m : Mode) → holds_of s pick.thread l m
        ≡ owned_by_caller u x turn.frame l m + holds_named u turn.frame.locals (λ a. exit_with answer (Some a)) ats l m + owned_below u x turn.below l m
    sum_here answer l m =
        let before = sum_before u x held turn.frame turn.below function facts.laid fits (to_ask n result) source l m in
        let owned = owned_before u x turn.frame function fits.top.listed
        (all_from (λ a. IsGeneric u x turn.frame function fits.top.listed a.kind → ⊥) (λ a. changes_lock a.kind ≡ false)
        (λ a e. no_generic u x turn.frame function fits.top.listed a.kind e) ats all_here) l m in
        let same = total_same (λ a. if_lock l (lock_named u turn.frame.locals a) (units (exit_with answer (Some a)) m))
        (λ a. if_lock l (lock_named u turn.frame.locals a) (units (entry_by (Some a.kind)) m)) ats
        (λ a i. ap (λ s. if_lock l (lock_named u turn.frame.locals a) (units s m)) (same_exit answer a i)) in
        omega (arith, before, owned, same)

    exit_locks : (answer : Option Bool) → All (λ a. (exit_with answer (Some a) ≡ Free → ⊥) → IsSome (lock_named u turn.frame.locals a)) ats
    exit_locks answer k d l = λ some. entry_lock u x turn.frame function (owned_below u x turn.below)
        (top_before u x held turn.frame turn.below function facts.laid fits (to_ask n result) source)
        (calls u x held turn.frame turn.below function facts.laid fits (to_ask n result) source).named (slice_index_or ats k d) (k, l, stands ats k d l)
        (λ e. some (same_exit answer (slice_index_or ats k d) (k, l, stands ats k d l) ∙ e))
      where
        stands : (xs : List Attr) (k : ℕ) (d : Attr) → k < length xs → slice_index_or xs k (slice_index_or xs k d) ≡ slice_index_or xs k d
        stands [] k d l = absurd (omega (arith, l))
        stands (y ∷ ys) zero d l = refl
        stands (y ∷ ys) (suc k) d l = stands ys k d (omega (arith, l))

    asked : (v : Value) → AnswerFits u source.made v → StackFits u x (holds_of s pick.thread) (frame_with_answer u turn.frame v) turn.below
    asked v answers = answered u x turn.frame turn.below function facts.laid (top_before u x held turn.frame turn.below function facts.laid fits
        (to_ask n result) source) fits.lower
        source.made source.there v answers (exit_locks (answer_held v)) (holds_of s pick.thread) (sum_here (answer_held v))

    no_tries : is_a_try u (Some source.made) ≡ false
    no_tries = none_tries (function_at u source.made.function).attrs all

    number_answers : (v : Value) → (scalar_kind (function_at u source.made.function).result ≡ true
        → is_value_of u.layout (function_at u source.made.function).result v ≡ true) → AnswerFits u source.made v
    number_answers v kind = record { kind = kind; tried = λ e. differ (sym no_tries ∙ e) }

    by_kind : (kind : Kind) → result ≡ kind → (function_at u source.made.function).result ≡ kind → GivesNumber kind → Invariant u x (step u s pick).0
    by_kind type.Void is gives number =
        own_turn u x s pick (to_ask n result) turn (running (frame_with_answer u turn.frame (of_truth false)) turn.below) inv
        (ap (λ kind. (perform u s pick.thread turn.frame turn.below pick.answer (to_ask n kind)).0) is)
        (asked (of_truth false) (number_answers (of_truth false) (λ scalar. differ (sym (ap scalar_kind gives) ∙ scalar))))
    by_kind type.Int is gives number =
        own_turn u x s pick (to_ask n result) turn (running (frame_with_answer u turn.frame (cell.converted type.Int (numeral.Int pick.answer))) turn.below) inv
        (ap (λ kind. (perform u s pick.thread turn.frame turn.below pick.answer (to_ask n kind)).0) is)
        (asked (cell.converted type.Int (numeral.Int pick.answer)) (number_answers (cell.converted type.Int (numeral.Int pick.answer))
        (λ scalar. subst (λ kind. is_value_of u.layout kind (cell.converted type.Int (numeral.Int pick.answer)) ≡ true) (sym gives)
        (int_fits (numeral.Int pick.answer) is_pick.answer))))
    by_kind type.Unsigned is gives number =
        own_turn u x s pick (to_ask n result) turn (running (frame_with_answer u turn.frame (cell.converted type.Unsigned (numeral.Int pick.answer))) turn.below) inv
        (ap (λ kind. (perform u s pick.thread turn.frame turn.below pick.answer (to_ask n kind)).0) is)
        (asked (cell.converted type.Unsigned (numeral.Int pick.answer)) (number_answers (cell.converted type.Unsigned (numeral.Int pick.answer))
        (λ scalar. subst (λ kind. is_value_of u.layout kind (cell.converted type.Unsigned (numeral.Int pick.answer)) ≡ true) (sym gives)
        (unsigned_fits (numeral.Int pick.answer) is_pick.answer))))
    by_kind (type.Structure k) is gives number = absurd number
    by_kind (type.Pointer k c) is gives number = absurd number
    by_kind type.Null is gives number = absurd number
    by_kind type.Function is gives number = absurd number

  asked_by_turn : OutsideSource source.made.function (function_at u source.made.function) source.values (to_ask n result) → Invariant u x (step u s pick).0
  asked_by_turn (on_nothing all gives does) = by_kind all (function_at u source.made.function).result (same_ask n source.made.function result
      (function_at u source.made.function).result does) refl gives
  asked_by_turn (on_a_lock lock call does) =
      no_asking call.attribute.kind call.attribute.success lock n source.made.function result (function_at u source.made.function).result call.changes does

pub environment_calls_go_well : EnvironmentCallsGoWell
environment_calls_go_well u x s pick (to_ask n result) is_pick facts inv turn is = record {
  kept = asked_by_turn u x s pick is_pick facts inv n result turn
      (let source = called_by u turn.frame (to_ask n result) turn.does tt in
      let fits = before_turn u x s pick (to_ask n result) turn inv in
      outside source.made.function (function_at u source.made.function) source.values (to_ask n result) tt
      (calls u x (holds_of s pick.thread) turn.frame turn.below (facts.functions turn.frame.function fits.top.with_body) facts.laid fits
      (to_ask n result) source).outside source.does);
  safe = safe_by_act u s pick (to_ask n result) turn tt;
}
environment_calls_go_well u x s pick act is_pick facts inv turn is = absurd is
