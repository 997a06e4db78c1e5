-- A call is answered: its frame goes on, whatever it does with the answer.
use Rattle.std.proofs.Common.{◌≡◌, ◌∙◌, ℕ, ◌+◌, Bool, true, false, List, Option, Some, None, refl, ap, sym, subst}
use Rattle.std.specs.Prelude.{All, Contains, IsSome}
use Rattle.tsa_base.specs.declared.value.Value.{Value}
use Rattle.tsa_core.specs.Bodies.{Action, evaluate, set_local, set_cell, declare, test, branch, go_on, give, can_have}
use Rattle.tsa_core.specs.Control.{Next}
use Rattle.tsa_core.specs.Kinds.{Setting, scalar_kind}
use Rattle.tsa_core.specs.Meanings.{Call}
use Rattle.tsa_core.specs.PointKinds.{ActionHolds}
use Rattle.tsa_core.specs.Programs.{Attr, Program}
use Rattle.tsa_core.specs.Terms.{Term}
use Rattle.tsa_path.specs.Values.{is_true}
use Rattle.tsa_rules.specs.declared.status.Status.TheVariants.{Free}
use Rattle.tsa_rules.specs.Attributes.{is_try}
use Rattle.tsa_rules.specs.Conditions.{Condition, the_call, answer_by, condition_at, condition_in}
use Rattle.tsa_rules.specs.Effects.{answer_of_call, attempt_at, attempt_of, exit_with, is_success, of_call}
use Rattle.tsa_rules.specs.Points.{attrs_at, function_at, is_a_try}
use Rattle.tsa_sched.specs.declared.event.Mode.{Mode}
use Rattle.tsa_mean.specs.Acts.{point_of}
use Rattle.tsa_mean.specs.Frames.{frame_by_answer, frame_with_answer, left_of, or_none, outcome_of, right_of, value_with_answer, with_work}
use Rattle.tsa_mean.specs.States.{Frame, Holds, working}
use Rattle.tsa_mean.specs.Working.{with_answer}
use Rattle.tsa_sound.specs.CallFacts.{CallFacts, CanCall, TakesAnswer, UsesAnswer}
use Rattle.tsa_sound.specs.Facts.{FunctionFacts}
use Rattle.tsa_sound.specs.FramesFit.{FrameFits, GoesOnBehind, ProgramRows, function_of, owned_below, owned_by_caller, setting_behind}
use Rattle.tsa_sound.specs.FramesFit.{stable_of, status_before}
use Rattle.tsa_sound.specs.Invariant.{LowerFit, StackFits}
use Rattle.tsa_sound.specs.LaidOut.{LaidOut}
use Rattle.tsa_sound.specs.SettledStatuses.{answer_held, lock_named}
use Rattle.tsa_sound.proofs.CallAnswers.{AnswerFits, calls, given_is, is_tried, of_kind, stays_behind, stays_working}
use Rattle.tsa_sound.proofs.CallTests.{call_told}
use Rattle.tsa_sound.proofs.Claims.{holds_named}
use Rattle.tsa_sound.proofs.DeclaredAnswers.{declared_behind}

module _ (u : Program) (x : ProgramRows) (frame : Frame) (below : List Frame) (facts : FunctionFacts u x frame.function) (laid : LaidOut u.layout)
    (top : FrameFits u x (owned_below u x below) frame (status_before x frame)) (lower : LowerFit u x frame below)
    (c : Call) (there : (point_of u frame).call ≡ Some c) (v : Value) (answers : AnswerFits u c v)
    (exits : All (λ a. (exit_with (answer_held v) (Some a) ≡ Free → ⊥) → IsSome (lock_named u frame.locals a)) (attrs_at u (function_of u frame) frame.point))
    (held : Holds) (sum : (lock : ℕ) (mode : Mode) → held lock mode ≡ owned_by_caller u x frame lock mode
    + holds_named u frame.locals (λ a. exit_with (answer_held v) (Some a)) (attrs_at u (function_of u frame) frame.point) lock mode
    + owned_below u x below lock mode) where
  facts_here : CallFacts u (function_of u frame) frame.point c
  facts_here = calls u x frame below facts top lower c there v answers exits held sum

  -- what takes no answer of a try is no call of one
  no_try : {A : Type 0} (action : Action) → (point_of u frame).action ≡ action → (TakesAnswer action → A)
      → (a : Attr) → Contains (attrs_at u (function_of u frame) frame.point) a → is_try a.kind ≡ true → A
  no_try action e takes a i tries =
      takes (subst TakesAnswer e (facts_here.tries (is_tried u x frame below facts top lower c there v answers exits held sum a i tries)).0)

  scalar : UsesAnswer (point_of u frame).action → scalar_kind (function_at u c.function).result ≡ true
  scalar uses = facts_here.gives uses

  -- a test tells the answer of a try by its outcome
  module _ (y : Term) (e : (point_of u frame).action ≡ test y) where
    abbrev k : Setting
    k = setting_behind u (function_of u frame) (point_of u frame)

    abbrev taken : Bool
    taken = is_true (value_with_answer u frame v y)

    uses : UsesAnswer (point_of u frame).action
    uses = subst UsesAnswer (sym e) tt

    can : (b : Bool) → can_have (test y) (outcome_of b) ≡ true
    can true = refl
    can false = refl

    told_by : (a : Attr) → is_a_try u (Some c) ≡ true → (t : Option Condition) → condition_in y ≡ t → IsSome t → (h : Option Bool) → answer_held v ≡ h → IsSome h
        → is_success a.success (answer_of_call (outcome_of taken) t) ≡ is_success a.success h
    told_by a tries None is some h holds known = absurd (missing some)
      where
        missing : IsSome {T = Condition} None → ⊥
        missing h = cc
    told_by a tries (Some t) is some None holds known = absurd (missing known)
      where
        missing : IsSome {T = Bool} None → ⊥
        missing h = cc
    told_by a tries (Some t) is some (Some h) holds known =
        let call : t.subject ≡ the_call = facts_here.asks t (ap condition_at e ∙ is) in
        let acts = subst (ActionHolds k (function_of u frame).result) e (facts.points frame.point).kinds.1 in
        let told = call_told k (stable_of (function_of u frame).body) u.layout frame.locals v h holds
        (given_is u x frame below facts top lower c there v answers exits held sum (scalar uses) ∙ ap Some (facts_here.tries tries).1)
        (of_kind u x frame below facts top lower c there v answers exits held sum (scalar uses)) t call acts.0 y is acts.1.0 in
        ap (is_success a.success) (ap (λ s. of_call s (answer_by (outcome_of taken) t)) call
        ∙ (ap (λ out. answer_by (outcome_of (is_true (or_none out))) t) told.is ∙ told.tells))

    told_here : (a : Attr) → Contains (attrs_at u (function_of u frame) frame.point) a → is_try a.kind ≡ true
        → attempt_at u (function_of u frame) (point_of u frame).action (outcome_of taken) a ≡ attempt_of (is_success a.success (answer_held v))
    told_here a i tries =
        let is = is_tried u x frame below facts top lower c there v answers exits held sum a i tries in
        ap (λ action. attempt_at u (function_of u frame) action (outcome_of taken) a) e
        ∙ ap attempt_of (told_by a is (condition_in y) refl (subst TakesAnswer e (facts_here.tries is).0) (answer_held v) refl (answers.tried is))

    tested : StackFits u x held (frame_by_answer u frame v (test y)) below
    tested = stays_behind u x frame below facts top lower c there v answers exits held sum (outcome_of taken) told_here (ap (λ a. can_have a (outcome_of taken)) e
        ∙ can taken)

  -- an assignment and a return go on with the answer
  goes_working : (action : Action) → (point_of u frame).action ≡ action → GoesOnBehind (Some c) action → UsesAnswer action → (TakesAnswer action → ⊥)
      → StackFits u x held (with_work frame (working (with_answer v (right_of action)) (left_of action) None)) below
  goes_working action e goes uses takes =
      subst (λ action. StackFits u x held (with_work frame (working (with_answer v (right_of action)) (left_of action) None)) below) e
      (stays_working u x frame below facts top lower c there v answers exits held sum (λ a i tries. absurd (no_try action e takes a i tries))
      (subst (GoesOnBehind (Some c)) (sym e) goes) (scalar (subst UsesAnswer (sym e) uses)))

  pub answered : StackFits u x held (frame_with_answer u frame v) below
  answered = by (point_of u frame).action refl
    where
      by : (action : Action) → (point_of u frame).action ≡ action → StackFits u x held (frame_by_answer u frame v action) below
      by (evaluate y) e = stays_behind u x frame below facts top lower c there v answers exits held sum Next
          (λ a i tries. absurd (no_try (evaluate y) e (λ takes. takes) a i tries)) (ap (λ a. can_have a Next) e)
      by (declare n kind y) e = declared_behind u x frame below facts laid top lower c there v answers exits held sum n kind y e
      by (test y) e = tested y e
      by (set_local n o kind y) e = goes_working (set_local n o kind y) e tt tt (λ takes. takes)
      by (set_cell place o kind y) e = goes_working (set_cell place o kind y) e tt tt (λ takes. takes)
      by (give kind y) e = goes_working (give kind y) e tt tt (λ takes. takes)
      by (branch y) e = absurd (subst CanCall e facts_here.acts)
      by go_on e = absurd (subst CanCall e facts_here.acts)
