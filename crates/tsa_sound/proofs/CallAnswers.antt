-- A call is answered, and its frame goes on: to another point, or with what is left to be worked out.
use Rattle.std.proofs.Common.{◌≡◌, ◌∙◌, ℕ, zero, suc, ◌+◌, ◌≤◌, Bool, true, false, List, [], ◌∷◌, length, Option, Some, None, inl, inr}
use Rattle.std.proofs.Common.{option_and_then, option_map, slice_get, refl, ap, sym, subst, arith}
use Rattle.std.specs.List.{list_any}
use Rattle.std.specs.Prelude.{All, Contains, IsSome}
use Rattle.tsa_base.specs.declared.value.Value.{Value}
use Rattle.tsa_place_model.specs.Ways.{Way}
use Rattle.tsa_core.specs.Bodies.{can_have}
use Rattle.tsa_core.specs.Control.{Outcome, Next}
use Rattle.tsa_core.specs.KindLaws.{signatures}
use Rattle.tsa_core.specs.Kinds.{scalar_kind}
use Rattle.tsa_core.specs.Meanings.{Call}
use Rattle.tsa_core.specs.PointKinds.{answer_of}
use Rattle.tsa_core.specs.Programs.{Attr, Function, Program}
use Rattle.tsa_place_model.specs.Stores.{is_value_of}
use Rattle.tsa_path.proofs.PathsApart.{way_equal}
use Rattle.tsa_rules.specs.declared.status.Status.{Status}
use Rattle.tsa_rules.specs.declared.status.Status.TheVariants.{Free, Lent, Pending}
use Rattle.tsa_rules.specs.Attributes.{all_as_called, claim, is_path, is_reentrant, is_try, kind_of, local_kinds, names}
use Rattle.tsa_rules.specs.Conditions.{Condition, answer_by, condition_at}
use Rattle.tsa_rules.specs.Effects.{after_asking, after_attempt, after_claim, after_test, attempt_at, attempt_of, effect, exit_with}
use Rattle.tsa_rules.specs.Effects.{if_taken, is_success, taken_by}
use Rattle.tsa_rules.specs.Points.{attrs_at, attrs_called, edges_of, function_at, is_a_try, or_no_function, point_at, try_variables}
use Rattle.tsa_rules.specs.Points.{uses_at}
use Rattle.tsa_sched.specs.declared.event.Mode.{Mode}
use Rattle.tsa_mean.specs.Acts.{point_of}
use Rattle.tsa_mean.specs.Frames.{frame_at, frame_behind, left_of, or_here, point_behind, right_of, with_work, work_at}
use Rattle.tsa_mean.specs.Returns.{attrs_of, lock_of}
use Rattle.tsa_mean.specs.States.{Frame, Holds, Work, working}
use Rattle.tsa_mean.specs.Working.{Locals, with_answer}
use Rattle.tsa_sound.specs.CallFacts.{CallFacts}
use Rattle.tsa_sound.specs.Facts.{FunctionFacts}
use Rattle.tsa_sound.specs.FramesFit.{FrameFits, GoesOnBehind, IsDecided, IsLentOf, LocalsFit, ProgramRows, WorkFits, function_of}
use Rattle.tsa_sound.specs.FramesFit.{owned_below, owned_by_caller, paths_of, setting_behind, settled_in, stable_of, status_before}
use Rattle.tsa_sound.specs.FramesFit.{status_now}
use Rattle.tsa_sound.specs.Invariant.{LowerFit, StackFits}
use Rattle.tsa_sound.specs.PartlyWorked.{IsOfKind}
use Rattle.tsa_sound.specs.SettledStatuses.{answer_held, hold, lock_in, lock_named, settled}
use Rattle.tsa_sound.proofs.CallTests.{answered_worked}
use Rattle.tsa_sound.proofs.Claims.{holds_named}
use Rattle.tsa_sound.proofs.Constants.{differ}
use Rattle.tsa_sound.proofs.Deciding.{if_settled, settled_is, taken_settled, not_pending}
use Rattle.tsa_sound.proofs.Edges.{edge_to}
use Rattle.tsa_sound.proofs.Fresh.{fresh_status, left_self, no_old, work_fits}
use Rattle.tsa_sound.proofs.Moves.{free_is_not_lent}
use Rattle.tsa_sound.proofs.Sums.{total_same}
use Rattle.tsa_sound.proofs.Tables.{FitsClaim, call_pending}
use Rattle.tsa_sound.proofs.Transfer.{GoesOn, all_at, fits_at, found, lent_before, owned_behind, some_before}

-- An answer is one of the called function: a value of its kind, and of a try an answer.
pub record AnswerFits (u : Program) (c : Call) (v : Value) : Type 0 where
  pub kind : scalar_kind (function_at u c.function).result ≡ true → is_value_of u.layout (function_at u c.function).result v ≡ true
  pub tried : is_a_try u (Some c) ≡ true → IsSome (answer_held v)

-- an attribute names the path that it has
pub named_is : (d : Way) (a : Attr) → names d a ≡ true → a.path ≡ Some d
named_is d a e = by a.path e
  where
    by : (o : Option Way) → is_path d o ≡ true → o ≡ Some d
    by None e = differ e
    by (Some w) e = ap Some (way_equal w d e)

-- a try among the attributes of a call is one of the function's
pub tries_of : (args : List (Option Way)) (ats : List Attr) (a : Attr) → Contains (all_as_called args ats) a → is_try a.kind ≡ true
    → list_any (λ a. is_try a.kind) ats ≡ true
tries_of args [] a i e = let l = i.1 in absurd (omega (arith, l))
tries_of args (b ∷ rest) a i e = by i (is_try b.kind) refl (λ i. tries_of args rest a i e)
  where
    by : Contains (all_as_called args (b ∷ rest)) a → (t : Bool) → is_try b.kind ≡ t → (Contains (all_as_called args rest) a
        → list_any (λ a. is_try a.kind) rest ≡ true)
        → list_any (λ a. is_try a.kind) (b ∷ rest) ≡ true
    by i true is more = any_first t_is
      where
        t_is : is_try b.kind ≡ true
        t_is = is

        any_first : is_try b.kind ≡ true → list_any (λ a. is_try a.kind) (b ∷ rest) ≡ true
        any_first e = cc
    by (zero, l, same) false is more = differ (sym is ∙ (ap (λ a. is_try a.kind) same ∙ e))
    by (suc k, l, same) false is more = any_rest is (more (k, omega (arith, l), same))
      where
        any_rest : is_try b.kind ≡ false → list_any (λ a. is_try a.kind) rest ≡ true → list_any (λ a. is_try a.kind) (b ∷ rest) ≡ true
        any_rest e f = cc

if_attempted : (b : Bool) (taken : Status) → after_attempt (attempt_of b) taken Free ≡ if_taken b taken
if_attempted true taken = refl
if_attempted false taken = refl

module _ (u : Program) (x : ProgramRows) (frame : Frame) (below : List Frame) (facts : FunctionFacts u x frame.function)
    (top : FrameFits u x (owned_below u x below) frame (status_before x frame)) (lower : LowerFit u x frame below)
    (c : Call) (there : (point_of u frame).call ≡ Some c) (v : Value) (answers : AnswerFits u c v)
    (exits : All (λ a. (exit_with (answer_held v) (Some a) ≡ Free → ⊥) → IsSome (lock_named u frame.locals a)) (attrs_at u (function_of u frame) frame.point))
    (held : Holds) (sum : (lock : ℕ) (mode : Mode) → held lock mode ≡ owned_by_caller u x frame lock mode
    + holds_named u frame.locals (λ a. exit_with (answer_held v) (Some a)) (attrs_at u (function_of u frame) frame.point) lock mode
    + owned_below u x below lock mode) where
  abbrev f : Function
  f = function_of u frame

  pub calls : CallFacts u (function_of u frame) frame.point c
  calls = (facts.points frame.point).calls c there

  -- what is given is of the kind that the point knows
  pub given_is : scalar_kind (function_at u c.function).result ≡ true → answer_of (signatures u) (point_of u frame).call ≡ Some (function_at u c.function).result
  given_is scalar = ap (answer_of (signatures u)) there ∙ by (slice_get u.functions c.function) refl scalar
    where
      by : (o : Option Function) → slice_get u.functions c.function ≡ o → scalar_kind (or_no_function o).result ≡ true
          → option_map (λ f. f.result) o ≡ Some (or_no_function o).result
      by None e scalar = differ scalar
      by (Some g) e scalar = refl

  pub of_kind : scalar_kind (function_at u c.function).result ≡ true → IsOfKind u.layout (answer_of (signatures u) (point_of u frame).call) v
  of_kind scalar = subst (λ o. IsOfKind u.layout o v) (sym (given_is scalar)) (answers.kind scalar)

  -- a try among the attributes
  pub is_tried : (a : Attr) → Contains (attrs_at u (function_of u frame) frame.point) a → is_try a.kind ≡ true → is_a_try u (Some c) ≡ true
  is_tried a i e =
      ap (is_a_try u) (sym there) ∙ tries_of (uses_at f frame.point).arguments (attrs_called u (point_of u frame).call) a i e

  -- a test looks at nothing but the call
  pub untested : (o : Outcome) (d : Way) (s : Status) → after_test u (function_of u frame) d o (condition_at (point_of u frame).action) s ≡ s
  untested o d s = by (condition_at (point_of u frame).action) refl
    where
      by : (k : Option Condition) → condition_at (point_of u frame).action ≡ k → after_test u f d o k s ≡ s
      by None e = refl
      by (Some k) e = ap (λ subject. after_asking u f d subject (answer_by o k) s) (calls.asks k e)

  -- The frame at a point, with something to be worked out and some locals.
  module _ (new : Locals) (o : Outcome) (on : GoesOn u x frame facts top.listed new o (answer_held v))
      (decides : (d : Way) (w : ℕ) → Contains (paths_of x frame) d → effect u (function_of u frame) frame.point d o (status_before x frame d) ≡ Pending w
      → IsDecided u (function_of u frame) new d (slice_get (try_variables u (function_of u frame)) w))
      (typed : LocalsFit u (function_of u frame) new) (whole : length (local_kinds (function_of u frame)) ≤ length new)
      (steady : All (λ a. lock_of u frame a ≡ lock_named u new a) (attrs_of u frame)) where
    abbrev behind : Way → Status
    behind d = effect u (function_of u frame) frame.point d o (status_before x frame d)

    abbrev pub frame_with : ℕ → Work → Frame
    frame_with q work = record { function = frame.function; args = frame.args; point = q; work = work; locals = new; at_call = frame.at_call }

    module _ (q : ℕ) (work : Work) (listed : (x.rows frame.function).has_point q ≡ true)
        (row : (d : Way) → Contains (paths_of x frame) d → status_now u x (frame_with q work) d ≡ effect u (function_of u frame) frame.point d o
        (status_before x frame d)) where
      some_now : (d : Way) → Contains (paths_of x frame) d → (settled_in u (frame_with q work) (status_now u x (frame_with q work)) d ≡ Free → ⊥)
          → settled u (function_of u frame) new d (behind d) ≡ Free → ⊥
      some_now d i some free = some (ap (settled u f new d) (row d i) ∙ free)

      lock_before : (d : Way) → Contains (paths_of x frame) d → (settled u (function_of u frame) new d (behind d) ≡ Free → ⊥) → IsSome (lock_in u frame.locals d)
      lock_before d i some = elim (some_before u x frame facts top.listed new o (answer_held v) on d i some) [
        | inl before ↦ top.locks d i before
        | inr of ↦ subst IsSome (ap (option_and_then (lock_in u frame.locals)) (named_is d of.0 of.1.naming))
            (all_at (λ a. (exit_with (answer_held v) (Some a) ≡ Free → ⊥) → IsSome (lock_named u frame.locals a)) (attrs_at u f frame.point) of.0 exits of.1.there of.2)
      ]

      locks_now : (d : Way) → Contains (paths_of x frame) d → (settled_in u (frame_with q work) (status_now u x (frame_with q work)) d ≡ Free → ⊥)
          → IsSome (lock_in u new d)
      locks_now d i some = elim (on.leads d i) [
        | inl free ↦ absurd (some_now d i some free)
        | inr same ↦ subst IsSome (sym same) (lock_before d i (some_now d i some))
      ]

      lent_now : (d : Way) → Contains (paths_of x frame) d → settled_in u (frame_with q work) (status_now u x (frame_with q work)) d ≡ Lent
          → IsLentOf (owned_below u x below) (lock_in u new d)
      lent_now d i is =
          let lent : settled u f new d (behind d) ≡ Lent = sym (ap (settled u f new d) (row d i)) ∙ is in
          elim (on.leads d i) [
            | inl free ↦ free_is_not_lent (sym free ∙ lent)
            | inr same ↦ subst (IsLentOf (owned_below u x below)) (sym same) (top.lent d i (lent_before u x frame facts top.listed new o (answer_held v) on d i lent))
          ]

      top_now : FrameFits u x (owned_below u x below) (frame_with q work) (status_now u x (frame_with q work))
      top_now = record {
        with_body = top.with_body;
        listed = listed;
        locks = locks_now;
        lent = lent_now;
        answers = λ d w i is. decides d w i (sym (row d i) ∙ is);
        typed = typed;
        whole = whole;
        owed = top.owed;
        steady = steady;
        at_call = top.at_call;
      }

      lower_now : (rest : List Frame) → LowerFit u x frame rest → LowerFit u x (frame_with q work) rest
      lower_now [] fits = tt
      lower_now (other ∷ rest) fits = (record { call = fits.0.call; there = fits.0.there; function = fits.0.function; agree = fits.0.agree }, fits.1, fits.2)

      -- fits the holds that it has then
      pub goes_with : WorkFits u (function_of u frame) (point_at (function_of u frame) q) new work → StackFits u x held (frame_with q work) below
      goes_with fits = record {
        top = top_now;
        work = fits;
        lower = lower_now below lower;
        sum = λ lock mode.
            let owns = owned_behind u x frame facts top.listed new o (answer_held v) on lock mode in
            let same = total_same (λ d. hold u new d (settled_in u (frame_with q work) (status_now u x (frame_with q work)) d) lock mode)
            (λ d. hold u new d (settled u f new d (behind d)) lock mode) (paths_of x frame) (λ d i. ap (λ s. hold u new d (settled u f new d s) lock mode)
            (row d i)) in
            let all = sum lock mode in
            omega (arith, owns, same, all);
      }

    -- it goes to the point that follows
    pub goes_behind : can_have (point_of u frame).action o ≡ true → StackFits u x held (frame_behind u frame new o) below
    goes_behind can = by (point_behind u frame o) refl
      where
        missing : IsSome {T = ℕ} None → ⊥
        missing h = cc

        by : (to : Option ℕ) → point_behind u frame o ≡ to → StackFits u x held (frame_at u frame new (or_here frame.point to)) below
        by None e = absurd (missing (subst IsSome e ((facts.points frame.point).goes_on o (subst IsSome (sym there) refl) can)))
        by (Some q) e =
            let edge = edge_to (edges_of f) frame.point q o e in
            goes_with q (work_at u frame.function q) (facts.kept.goes_on frame.point q o top.listed edge)
            (λ d i. fresh_status u (frame_at u frame new q) d ((x.rows frame.function).status q d) ∙ facts.kept.goes_along frame.point q o d top.listed edge i)
            (work_fits u frame.function q new)

  -- Locals stay as they are, and tries are told by the outcome.
  module _ (o : Outcome) (told : (a : Attr) → Contains (attrs_at u (function_of u frame) frame.point) a → is_try a.kind ≡ true
      → attempt_at u (function_of u frame) (point_of u frame).action o a ≡ attempt_of (is_success a.success (answer_held v))) where
    attempted : (a : Attr) → Contains (attrs_at u (function_of u frame) frame.point) a → is_try a.kind ≡ true
        → after_attempt (attempt_at u (function_of u frame) (point_of u frame).action o a) (taken_by a.kind) Free ≡ if_taken (is_success a.success (answer_held v))
        (taken_by a.kind)
    attempted a i tries = ap (λ t. after_attempt t (taken_by a.kind) Free) (told a i tries) ∙ if_attempted (is_success a.success (answer_held v)) (taken_by a.kind)

    pub stays_on : GoesOn u x frame facts top.listed frame.locals o (answer_held v)
    stays_on = record {
      untested = untested o;
      others = λ d i e. refl;
      tries = λ d i a e tries. ap (settled u f frame.locals d) (attempted a (found (attrs_at u f frame.point) d a e).there tries)
          ∙ settled_is u f frame.locals d (if_taken (is_success a.success (answer_held v)) (taken_by a.kind))
          (if_settled (is_success a.success (answer_held v)) (taken_by a.kind) (taken_settled a.kind));
      leads = λ d i. inr refl;
    }

    pub stays_decided : (d : Way) (w : ℕ) → Contains (paths_of x frame) d → effect u (function_of u frame) frame.point d o (status_before x frame d) ≡ Pending w
        → IsDecided u (function_of u frame) frame.locals d (slice_get (try_variables u (function_of u frame)) w)
    stays_decided d w i e = by (claim (attrs_at u f frame.point) d) refl (fits_at u x frame facts top.listed d i) (sym (untested o d _) ∙ e)
      where
        by : (claimed : Option Attr) → claim (attrs_at u f frame.point) d ≡ claimed → FitsClaim (is_reentrant u f d) (kind_of claimed) (status_before x frame d)
            → after_claim u f frame.point d o claimed (status_before x frame d) ≡ Pending w → IsDecided u f frame.locals d (slice_get (try_variables u f) w)
        by None e fits is = top.answers d w i is
        by (Some a) e fits is =
            let claim = found (attrs_at u f frame.point) d a e in
            let pending = call_pending (is_reentrant u f d) (attempt_at u f (point_of u frame).action o a) a.kind (status_before x frame d) claim.claiming fits w is in
            not_pending (if_taken (is_success a.success (answer_held v)) (taken_by a.kind)) w
            (if_settled (is_success a.success (answer_held v)) (taken_by a.kind) (taken_settled a.kind)) (sym (attempted a claim.there pending.0) ∙ pending.1)

    -- so the frame goes to the point that follows
    pub stays_behind : can_have (point_of u frame).action o ≡ true → StackFits u x held (frame_behind u frame frame.locals o) below
    stays_behind = goes_behind frame.locals o stays_on stays_decided top.typed top.whole top.steady

  -- or what is left at its point is worked out with the answer
  module _ (told : (a : Attr) → Contains (attrs_at u (function_of u frame) frame.point) a → is_try a.kind ≡ true
      → attempt_at u (function_of u frame) (point_of u frame).action Next a ≡ attempt_of (is_success a.success (answer_held v)))
      (goes : GoesOnBehind (Some c) (point_of u frame).action) (scalar : scalar_kind (function_at u c.function).result ≡ true) where
    pub stays_working : StackFits u x held
        (with_work frame (working (with_answer v (right_of (point_of u frame).action)) (left_of (point_of u frame).action) None)) below
    stays_working = goes_with frame.locals Next (stays_on Next told) (stays_decided Next told) top.typed top.whole top.steady frame.point
        (working (with_answer v (right_of (point_of u frame).action)) (left_of (point_of u frame).action) None) top.listed (λ d i. refl)
        (record {
          goes_on = subst (λ call. GoesOnBehind call (point_of u frame).action) (sym there) goes;
          right_side = answered_worked (setting_behind u f (point_of u frame)) (stable_of f.body) frame.locals v (of_kind scalar) (right_of (point_of u frame).action);
          left_side = left_self (setting_behind u f (point_of u frame)) (stable_of f.body) frame.locals (left_of (point_of u frame).action);
          old_value = no_old u.layout (point_of u frame).action;
        })
