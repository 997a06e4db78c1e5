-- A call of a lock function: to which lock it leads, what its caller hands over, and what it has back.
use Rattle.std.proofs.Common.{◌≡◌, ◌∙◌, ℕ, ◌+◌, ◌<◌, Bool, true, false, ◌&&◌, List, [], ◌∷◌, ◌++◌, length, map, Option, Some, None, ◌⊎◌}
use Rattle.std.proofs.Common.{inl, inr, option_and_then, option_map, slice_get, if◌then◌else◌, refl, ap, sym, subst, arith}
use Rattle.std.specs.Prelude.{All, Contains, IsSome, cond}
use Rattle.tsa_base.specs.declared.value.Value.{Value}
use Rattle.tsa_base.specs.declared.value.Value.TheVariants.{Int, Unsigned, Pointer}
use Rattle.tsa_tree.specs.declared.attr.AttrKind.{AttrKind}
use Rattle.tsa_tree.specs.declared.attr.AttrKind.TheVariants as attr
use Rattle.tsa_tree.specs.declared.kind.Kind.{Kind}
use Rattle.tsa_tree.specs.declared.kind.Kind.TheVariants as type
use Rattle.tsa_place_model.specs.declared.spot.Spot.TheVariants.{Place}
use Rattle.tsa_place_model.specs.Ways.{Way}
use Rattle.tsa_place_model.specs.Calls.{Layout, place_in, pointee, take_root}
use Rattle.tsa_core.specs.KindLaws.{signatures}
use Rattle.tsa_core.specs.Kinds.{Setting, scalar_kind}
use Rattle.tsa_core.specs.Meanings.{Call}
use Rattle.tsa_place_model.specs.declared.place.Placed.{Placed}
use Rattle.tsa_core.specs.PointKinds.{ArgsServe, CallHolds, Serves}
use Rattle.tsa_core.specs.Programs.{Attr, Function, Program}
use Rattle.tsa_place_model.specs.Stores.{is_value_of, may_point}
use Rattle.tsa_core.specs.Terms.{Term}
use Rattle.tsa_path.specs.Substitution.{as_pointer, further, given, substituted}
use Rattle.tsa_path.specs.Values.{of_truth, pointed_place}
use Rattle.tsa_path.proofs.PathsApart.{way_itself}
use Rattle.tsa_rules.specs.declared.status.Status.{Status}
use Rattle.tsa_rules.specs.declared.status.Status.TheVariants.{Free}
use Rattle.tsa_rules.specs.Attributes.{all_as_called, as_called, claim, claims, claims_path, is_path, is_reentrant, kind_of}
use Rattle.tsa_rules.specs.Effects.{exit_with}
use Rattle.tsa_rules.specs.Points.{attrs_at, attrs_called, function_at, or_no_function, uses_at}
use Rattle.tsa_sched.specs.declared.event.Mode.{Mode}
use Rattle.tsa_mean.specs.Acts.{Act, changes_lock, point_of}
use Rattle.tsa_mean.specs.Frames.{frame_with_answer}
use Rattle.tsa_mean.specs.Outs.{bind, yields}
use Rattle.tsa_mean.specs.Returns.{if_lock}
use Rattle.tsa_mean.specs.States.{Frame, Holds}
use Rattle.tsa_mean.specs.WorthLaws.{values}
use Rattle.tsa_mean.specs.Working.{Locals, rvalue, rvalues}
use Rattle.tsa_mean.proofs.Lists.{all_first, all_more, all_none}
use Rattle.tsa_sound.specs.CallFacts.{CallFacts}
use Rattle.tsa_sound.specs.Facts.{FunctionFacts, IsAmong}
use Rattle.tsa_sound.specs.FramesFit.{ArgsFit, FrameFits, ProgramRows, WorkFits, function_of, owned_below, owned_by_caller, paths_of}
use Rattle.tsa_sound.specs.FramesFit.{settled_in, setting_with, stable_of, status_before, status_by, status_now}
use Rattle.tsa_sound.specs.Invariant.{StackFits}
use Rattle.tsa_sound.specs.LaidOut.{LaidOut}
use Rattle.tsa_sound.specs.PartlyWorked.{AreWorked, IsWorked, PointsAlong}
use Rattle.tsa_sound.specs.SettledStatuses.{answer_held, hold, holds_for, lock_in, lock_named, total, units}
use Rattle.tsa_sound.specs.TermFacts.{AllFit, TermFits}
use Rattle.tsa_sound.proofs.CallAnswers.{AnswerFits}
use Rattle.tsa_sound.proofs.AnsweredCalls.{answered}
use Rattle.tsa_sound.proofs.CallComes.{CallSource, LockCall}
use Rattle.tsa_sound.proofs.Claims.{at_path, holds_named, unclaimed, worth}
use Rattle.tsa_sound.proofs.Constants.{differ}
use Rattle.tsa_sound.proofs.DeclaredAnswers.{inside}
use Rattle.tsa_sound.proofs.NumbersStay.{truth_fits}
use Rattle.tsa_sound.proofs.PlacesStand.{chained}
use Rattle.tsa_sound.proofs.Says.{bound, steps_behind, value_points}
use Rattle.tsa_sound.proofs.Tables.{FitsClaim, handed}
use Rattle.tsa_sound.proofs.Tests.{none_is_some, same_some, same_yields}
use Rattle.tsa_sound.proofs.Transfer.{alone, fits_settled, owned_before_of}
use Rattle.tsa_sound.proofs.ValuesFit.{value_fits}
use Rattle.tsa_sound.proofs.WriteLaw.{served}

-- the first argument, as it is written and as it is worked out
pub record FirstArgument (k : Setting) (stable : ℕ → Bool) (l : Layout) (locals : Locals) (xs : List Term) (v : Value) : Type 0 where
  pub written : Term
  pub now : Term
  pub there : slice_get xs 0 ≡ Some written
  pub worked : IsWorked k stable locals written now
  pub value : rvalue l locals now ≡ yields v

first_argument : (k : Setting) (stable : ℕ → Bool) (l : Layout) (locals : Locals) (xs ys : List Term) (vs : List Value) (v : Value) → AreWorked k stable locals xs ys
    → rvalues l locals ys ≡ yields vs → slice_get vs 0 ≡ Some v → FirstArgument k stable l locals xs v
first_argument k stable l locals [] [] vs v worked e first = none_is_some (ap (λ vs. slice_get vs 0) (same_yields e) ∙ first)
first_argument k stable l locals (x ∷ xs) (y ∷ ys) vs v worked e first =
    let one = bound (rvalue l locals y) (λ w. bind (rvalues l locals ys) (λ ws. yields (w ∷ ws))) vs e in
    let more = bound (rvalues l locals ys) (λ ws. yields (one.0 ∷ ws)) vs one.2 in
    let same : one.0 ≡ v = same_some (ap (λ vs. slice_get vs 0) (same_yields more.2) ∙ first) in
    record { written = x; now = y; there = refl; worked = worked.0; value = one.1 ∙ ap yields same }
first_argument k stable l locals [] (y ∷ ys) vs v worked e first = absurd worked
first_argument k stable l locals (x ∷ xs) [] vs v worked e first = absurd worked

first_fits : (k : Setting) (stable : ℕ → Bool) (xs : List Term) (x : Term) → AllFit k stable xs → slice_get xs 0 ≡ Some x → TermFits k stable x
first_fits k stable [] x fits e = none_is_some e
first_fits k stable (y ∷ ys) x fits e = subst (TermFits k stable) (same_some e) fits.0

first_serves : (k : Setting) (wanted : Kind) (kinds : List Kind) (xs : List Term) (x : Term) → ArgsServe k (wanted ∷ kinds) xs → slice_get xs 0 ≡ Some x
    → Serves k x wanted
first_serves k wanted kinds [] x serves e = none_is_some e
first_serves k wanted kinds (y ∷ ys) x serves e = subst (λ x. Serves k x wanted) (same_some e) serves.0

-- a pointer of its kind points inside
points_inside : (l : Layout) (struct : ℕ) (to_const : Bool) (v : Value) (place : ℕ) → is_value_of l (type.Pointer struct to_const) v ≡ true
    → pointed_place v ≡ Some place → place < length l.places
points_inside l struct to_const (Pointer None) place value e = none_is_some e
points_inside l struct to_const (Pointer (Some q)) place value e = subst (λ p. p < length l.places) (same_some e) (by (slice_get l.places q) refl value)
  where
    by : (o : Option Placed) → slice_get l.places q ≡ o → may_point struct to_const o ≡ true → q < length l.places
    by None is may = differ may
    by (Some p) is may = inside l.places q p is
points_inside l struct to_const (Int z) place value e = none_is_some e
points_inside l struct to_const (Unsigned n) place value e = none_is_some e

pointee_is : (v : Value) (place : ℕ) → pointed_place v ≡ Some place → pointee v ≡ Some (Place place)
pointee_is (Pointer p) place e = ap (option_map Place) e
pointee_is (Int z) place e = none_is_some e
pointee_is (Unsigned n) place e = none_is_some e

params_are : (u : Program) (n : ℕ) (kinds : List Kind) → (signatures u).params n ≡ Some kinds → kinds ≡ map (λ t. t.kind) (function_at u n).params
params_are u n kinds e = by (slice_get u.functions n) refl e
  where
    by : (o : Option Function) → slice_get u.functions n ≡ o → option_map (λ f. map (λ t. t.kind) f.params) o ≡ Some kinds
        → kinds ≡ map (λ t. t.kind) (or_no_function o).params
    by None is e = none_is_some e
    by (Some g) is e = sym (same_some e)

claims_change : (kind : AttrKind) → changes_lock kind ≡ true → claims kind ≡ true
claims_change attr.Acquire e = refl
claims_change attr.AcquireShared e = refl
claims_change attr.TryAcquire e = refl
claims_change attr.TryAcquireShared e = refl
claims_change attr.Release e = refl
claims_change attr.ReleaseShared e = refl
claims_change attr.ReleaseGeneric e = refl
claims_change attr.Requires e = refl
claims_change attr.RequiresShared e = refl
claims_change attr.Capability e = differ e
claims_change attr.GuardedBy e = differ e
claims_change attr.Excludes e = differ e
claims_change attr.AcquiredBefore e = differ e
claims_change attr.AcquiredAfter e = differ e

-- the answers of lock functions
truth_is_int : (l : Layout) (b : Bool) → is_value_of l type.Int (of_truth b) ≡ true
truth_is_int l true = truth_fits true
truth_is_int l false = truth_fits false

pub truth_answers : (b : Bool) → answer_held (of_truth b) ≡ Some b
truth_answers true = refl
truth_answers false = refl

pub lock_answers : (u : Program) (c : Call) (b : Bool) → ((function_at u c.function).result ≡ type.Void) ⊎ ((function_at u c.function).result ≡ type.Int)
    → AnswerFits u c (of_truth b)
lock_answers u c b result = record {
  kind = λ scalar. by result scalar;
  tried = λ e. subst IsSome (sym (truth_answers b)) refl;
}
  where
    by : ((function_at u c.function).result ≡ type.Void) ⊎ ((function_at u c.function).result ≡ type.Int) → scalar_kind (function_at u c.function).result ≡ true
        → is_value_of u.layout (function_at u c.function).result (of_truth b) ≡ true
    by (inl void) scalar = differ (sym (ap scalar_kind void) ∙ scalar)
    by (inr int) scalar = subst (λ kind. is_value_of u.layout kind (of_truth b) ≡ true) (sym int) (truth_is_int u.layout b)

-- a call whose arguments are worked out
module _ (u : Program) (x : ProgramRows) (held : Holds) (frame : Frame) (below : List Frame) (facts : FunctionFacts u x frame.function) (laid : LaidOut u.layout)
    (fits : StackFits u x held frame below) (act : Act) (source : CallSource u frame.locals (point_of u frame).call frame.work act) where
  abbrev f : Function
  f = function_of u frame

  -- nothing is answered yet
  now_is : status_now u x frame ≡ status_before x frame
  now_is i c = ap (λ work. status_by u frame work c (status_before x frame c)) source.is i

  pub top_before : FrameFits u x (owned_below u x below) frame (status_before x frame)
  top_before = subst (FrameFits u x (owned_below u x below) frame) now_is fits.top

  pub args_worked : AreWorked (setting_with u (function_of u frame) None) (stable_of (function_of u frame).body) frame.locals source.made.args source.args
  args_worked = subst (λ call. ArgsFit u f frame.locals call source.args) source.there (subst (WorkFits u f (point_of u frame) frame.locals) source.is fits.work)

  pub sum_before : (lock : ℕ) (mode : Mode) → held lock mode
      ≡ holds_for u frame.locals (paths_of x frame) (settled_in u frame (status_before x frame)) lock mode + owned_below u x below lock mode
  sum_before lock mode = fits.sum lock mode
      ∙ ap (λ status. holds_for u frame.locals (paths_of x frame) (settled_in u frame status) lock mode + owned_below u x below lock mode) now_is

  pub calls : CallFacts u (function_of u frame) frame.point source.made
  calls = (facts.points frame.point).calls source.made source.there

  -- of a lock function
  module _ (lock : ℕ) (call : LockCall (function_at u source.made.function) source.values lock) where
    abbrev pub a : Attr
    a = call.attribute

    abbrev pub ways : List (Option Way)
    ways = (uses_at (function_of u frame) frame.point).arguments

    abbrev pub here : Attr
    here = as_called (uses_at (function_of u frame) frame.point).arguments a

    attrs_here : attrs_at u (function_of u frame) frame.point ≡ as_called (uses_at (function_of u frame) frame.point).arguments a ∷ []
    attrs_here = ap (λ call. all_as_called ways (attrs_called u call)) source.there ∙ ap (all_as_called ways) call.attrs

    value : (v : Value) × (slice_get source.values 0 ≡ Some v) × (pointed_place v ≡ Some lock)
    value = chained pointed_place (slice_get source.values 0) lock call.points

    argument : FirstArgument (setting_with u (function_of u frame) None) (stable_of (function_of u frame).body) u.layout frame.locals source.made.args value.0
    argument = first_argument (setting_with u f None)
        (stable_of f.body) u.layout frame.locals source.made.args source.args source.values value.0 args_worked source.found value.1

    -- the path of its attribute here
    here_is : here.path ≡ further (option_and_then as_pointer (given ways 0)) (Some [])
    here_is = ap (option_and_then (substituted ways)) call.path

    pub named : (w : Way) × (option_and_then as_pointer (given ways 0) ≡ Some w) × (here.path ≡ Some (record { root = w.root; steps = w.steps ++ [] }))
    named = by (option_and_then as_pointer (given ways 0)) refl
        (subst IsSome here_is (all_first (λ a. IsSome a.path) here [] (subst (All (λ a. IsSome a.path)) attrs_here calls.named)))
      where
        missing : {A : Type 0} → IsSome {T = Way} None → A
        missing h = absurd cc

        by : (o : Option Way) → option_and_then as_pointer (given ways 0) ≡ o → IsSome (further o (Some []))
            → (w : Way) × (option_and_then as_pointer (given ways 0) ≡ Some w) × (here.path ≡ Some (record { root = w.root; steps = w.steps ++ [] }))
        by None e some = missing some
        by (Some w) e some = (w, e, here_is ∙ ap (λ o. further o (Some [])) e)

    abbrev pub way : Way
    way = record { root = named.0.root; steps = named.0.steps ++ [] }

    first_param : slice_get (map (λ t. t.kind) (function_at u source.made.function).params) 0 ≡ Some (type.Pointer call.struct call.to_const)
    first_param = ap (λ kinds. slice_get kinds 0) call.params

    -- leads to the lock
    way_leads : lock_in u frame.locals way ≡ Some lock
    way_leads =
        let follows = calls.arguments 0 call.struct call.to_const argument.written named.0 first_param argument.there named.1 in
        let along = subst (λ o. PointsAlong u.layout frame.locals o value.0) follows
        (value_points (setting_with u f None) (stable_of f.body) frame.locals argument.written argument.now value.0 argument.worked argument.value) in
        ap (option_and_then place_in) (steps_behind u.layout frame.locals named.0.steps [] (take_root u.layout (values frame.locals) None named.0.root)
        ∙ (along ∙ pointee_is value.0 lock value.2))

    pub lock_here : lock_named u frame.locals (as_called (uses_at (function_of u frame) frame.point).arguments a) ≡ Some lock
    lock_here = ap (option_and_then (lock_in u frame.locals)) named.2 ∙ way_leads

    -- which is one of the unit
    pub lock_inside : lock < length u.layout.places
    lock_inside =
        let holds = subst (CallHolds (signatures u) (setting_with u f None)) source.there (facts.points frame.point).kinds.0 in
        let kinds = params_are u source.made.function holds.0 holds.1.0 ∙ call.params in
        let serves = first_serves (setting_with u f None) (type.Pointer call.struct call.to_const) [] source.made.args argument.written
        (subst (λ kinds. ArgsServe (setting_with u f None) kinds source.made.args) kinds holds.1.1) argument.there in
        points_inside u.layout call.struct call.to_const value.0 lock
        (served u.layout serves.0 (type.Pointer call.struct call.to_const) value.0 (Pointer None) serves.1.1
        (value_fits (setting_with u f None) (stable_of f.body) frame.locals laid fits.top.typed argument.written argument.now serves.0 value.0
        (first_fits (setting_with u f None) (stable_of f.body) source.made.args argument.written
        ((facts.points frame.point).args_fit source.made source.there) argument.there)
        argument.worked serves.1.0 argument.value) refl) value.2

    claiming : claims a.kind ≡ true
    claiming = claims_change a.kind call.changes

    claimed : claim (attrs_at u (function_of u frame) frame.point) way ≡ Some here
    claimed = ap (λ ats. claim ats way) attrs_here ∙ ap (λ b. cond b (Some here) None) names_way
      where
        names_way : claims_path way here ≡ true
        names_way = ap (λ b. b && is_path way here.path) claiming ∙ (ap (is_path way) named.2 ∙ way_itself way)

    among : Contains (paths_of x frame) way
    among = all_first (λ a. IsAmong (paths_of x frame) a.path) here [] (subst (All (λ a. IsAmong (paths_of x frame) a.path)) attrs_here
        (facts.called frame.point)) way named.2

    -- its status fits what the function does
    abbrev pub status_here : Status
    status_here = settled_in u frame (status_before x frame) way

    pub fits_here : FitsClaim (is_reentrant u (function_of u frame) way) (Some a.kind) status_here
    fits_here = subst (λ o. FitsClaim (is_reentrant u f way) (kind_of o) status_here) claimed (fits_settled u x frame facts fits.top.listed way among)

    -- what the call is handed
    abbrev worth_here : ℕ → Mode → Attr → ℕ
    worth_here l m = worth (paths_of x frame) facts.once (λ c o. hold u frame.locals c (handed (kind_of o) (settled_in u frame (status_before x frame) c)) l m)
        (λ c. unclaimed u frame.locals (paths_of x frame) facts.once (attrs_at u (function_of u frame) frame.point) (facts.called frame.point)
        (alone u x frame facts fits.top.listed)
        (λ c o. handed (kind_of o) (settled_in u frame (status_before x frame) c)) (λ c. refl) l m c)

    abbrev at_here : ℕ → Mode → Option Way → ℕ
    at_here l m = at_path (paths_of x frame) facts.once (λ c o. hold u frame.locals c (handed (kind_of o) (settled_in u frame (status_before x frame) c)) l m)
        (λ c. unclaimed u frame.locals (paths_of x frame) facts.once (attrs_at u (function_of u frame) frame.point) (facts.called frame.point)
        (alone u x frame facts fits.top.listed)
        (λ c o. handed (kind_of o) (settled_in u frame (status_before x frame) c)) (λ c. refl) l m c) here

    one_worth : (l : ℕ) (m : Mode) → worth_here l m here ≡ if_lock l (Some lock) (units (handed (Some a.kind) status_here) m)
    one_worth l m = ap (λ b. if b then at_here l m here.path else 0) claiming
        ∙ (ap (at_here l m) named.2 ∙ ap (λ o. if_lock l o (units (handed (Some a.kind) status_here) m)) way_leads)

    pub owned_here : (l : ℕ) (m : Mode) → held l m
        ≡ owned_by_caller u x frame l m + if_lock l (Some lock) (units (handed (Some a.kind) status_here) m) + owned_below u x below l m
    owned_here l m =
        let all = sum_before l m in
        let before = owned_before_of u x frame facts fits.top.listed l m in
        let one : total (worth_here l m) (attrs_at u f frame.point) ≡ worth_here l m here + 0 = ap (total (worth_here l m)) attrs_here in
        let is = one_worth l m in
        omega (arith, all, before, one, is)

    -- and what it hands back
    handed_back : (answer : Option Bool) (l : ℕ) (m : Mode)
        → holds_named u frame.locals (λ a. exit_with answer (Some a)) (attrs_at u (function_of u frame) frame.point) l m
        ≡ if_lock l (Some lock) (units (exit_with answer (Some a)) m)
    handed_back answer l m =
        let one : holds_named u frame.locals (λ a. exit_with answer (Some a)) (attrs_at u f frame.point) l m ≡ if_lock l (lock_named u frame.locals here)
        (units (exit_with answer (Some a)) m) + 0 =
        ap (λ ats. holds_named u frame.locals (λ a. exit_with answer (Some a)) ats l m) attrs_here in
        let is = ap (λ o. if_lock l o (units (exit_with answer (Some a)) m)) lock_here in
        omega (arith, one, is)

    -- so the frame goes on, where the thread holds what is handed back
    pub answered_here : (b : Bool) (now : Holds) → ((l : ℕ) (m : Mode) → now l m
        ≡ owned_by_caller u x frame l m + if_lock l (Some lock) (units (exit_with (Some b) (Some a)) m) + owned_below u x below l m)
        → StackFits u x now (frame_with_answer u frame (of_truth b)) below
    answered_here b now sum = answered u x frame below facts laid top_before fits.lower source.made source.there (of_truth b) (lock_answers u source.made b call.result)
        (subst (All Exits) (sym attrs_here) (all_more Exits here [] (λ some. subst IsSome (sym lock_here) refl) (all_none Exits))) now
        (λ l m.
        let back = handed_back (answer_held (of_truth b)) l m in
        let told = ap (λ answer. if_lock l (Some lock) (units (exit_with answer (Some a)) m)) (truth_answers b) in
        let all = sum l m in
        omega (arith, back, told, all))
      where
        Exits : Attr → Type 0
        Exits a = (exit_with (answer_held (of_truth b)) (Some a) ≡ Free → ⊥) → IsSome (lock_named u frame.locals a)
