-- A function that returns owns what its attributes say for the answer that it gives.
use Rattle.std.proofs.Common.{◌≡◌, ◌∙◌, ℕ, zero, suc, pos, negsuc, Bool, true, false, List, [], ◌∷◌, Option, Some, None, option_and_then}
use Rattle.std.proofs.Common.{refl, ap, sym, subst, arith}
use Rattle.std.specs.List.{list_any}
use Rattle.std.specs.Prelude.{All, Contains, IsSome}
use Rattle.tsa_base.specs.declared.value.Value.{Value}
use Rattle.tsa_base.proofs.Truths.{or_right}
use Rattle.tsa_tree.specs.declared.attr.AttrKind.{AttrKind}
use Rattle.tsa_tree.specs.declared.attr.AttrKind.TheVariants as attr
use Rattle.tsa_tree.specs.declared.kind.Kind.{Kind}
use Rattle.tsa_tree.specs.declared.kind.Kind.TheVariants as type
use Rattle.tsa_tree.specs.declared.number.Number.{Number}
use Rattle.tsa_tree.specs.declared.number.Number.TheVariants as numeral
use Rattle.tsa_place_model.specs.Ways.{Way}
use Rattle.tsa_core.specs.Bodies.{give}
use Rattle.tsa_place_model.specs.Calls.{Layout}
use Rattle.tsa_core.specs.Kinds.{Setting, scalar_kind, value_kind}
use Rattle.tsa_core.specs.Meanings.{of_number}
use Rattle.tsa_core.specs.PointKinds.{ActionHolds}
use Rattle.tsa_core.specs.Programs.{Attr, Program}
use Rattle.tsa_place_model.specs.Stores.{is_value_of}
use Rattle.tsa_rules.specs.declared.rule.Rule.TheVariants.{TS09}
use Rattle.tsa_rules.specs.declared.status.Status.{Status}
use Rattle.tsa_rules.specs.declared.status.Status.TheVariants as status
use Rattle.tsa_rules.specs.declared.status.Status.TheVariants.{Free}
use Rattle.tsa_rules.specs.Attributes.{claim, claims, is_try, kind_of, names}
use Rattle.tsa_rules.specs.Conditions as condition
use Rattle.tsa_rules.specs.Conditions.{answer_in, constant_in, constant_result, is_constant}
use Rattle.tsa_rules.specs.Effects.{answer_given, exit, exit_by, exit_with, if_taken, is_success, is_taken_by}
use Rattle.tsa_rules.specs.Points.{is_leaving}
use Rattle.tsa_rules.proofs.Fitting.{what_does_not_fail_fits}
use Rattle.tsa_sched.specs.declared.event.Mode.{Mode}
use Rattle.tsa_mean.specs.Acts.{point_of, to_leave}
use Rattle.tsa_mean.specs.Frames.{right_of}
use Rattle.tsa_mean.specs.Outs.{yields}
use Rattle.tsa_mean.specs.Returns.{attrs_of}
use Rattle.tsa_mean.specs.States.{Frame, Holds}
use Rattle.tsa_mean.specs.Working.{rvalue}
use Rattle.tsa_sound.specs.BodyFacts.{GivesAnAnswer, IsScalar}
use Rattle.tsa_sound.specs.Facts.{FunctionFacts, IsAmong, RightFits}
use Rattle.tsa_sound.specs.FramesFit.{ProgramRows, WorkFits, function_of, owned, paths_of, setting_behind, settled_in, stable_of}
use Rattle.tsa_sound.specs.FramesFit.{status_before, status_by, status_now}
use Rattle.tsa_sound.specs.Invariant.{StackFits}
use Rattle.tsa_sound.specs.LaidOut.{LaidOut}
use Rattle.tsa_sound.specs.PartlyWorked.{IsWorked}
use Rattle.tsa_sound.specs.SettledStatuses.{answer_held, hold, lock_in, lock_named, settled}
use Rattle.tsa_sound.proofs.ReturnsCome.{Returns}
use Rattle.tsa_sound.proofs.Claims.{holds_named, split_named}
use Rattle.tsa_sound.proofs.Constants.{differ}
use Rattle.tsa_sound.proofs.Deciding.{IsSettled, exclusive, free, lent, settled_is, shared}
use Rattle.tsa_sound.proofs.HandedOver.{all_of, claim_is, join, names_own}
use Rattle.tsa_sound.proofs.LocalsBegin.{scalar_served}
use Rattle.tsa_sound.proofs.LocalsOfPaths.{or_left}
use Rattle.tsa_sound.proofs.NewFrame.{none_held}
use Rattle.tsa_sound.proofs.PlacesStand.{chained}
use Rattle.tsa_sound.proofs.Says.{constant_value}
use Rattle.tsa_sound.proofs.Sums.{total_same}
use Rattle.tsa_sound.proofs.Tests.{none_is_some}
use Rattle.tsa_sound.proofs.Transfer.{all_at, found}
use Rattle.tsa_sound.proofs.ValuesFit.{HasKind, value_fits}

-- what is held at the end is settled
taken_settled : (t : Bool) (s : Status) → IsSettled s → IsSettled (if_taken t s)
taken_settled true s is = is
taken_settled false s is = free

exit_settled : (t : Bool) (kind : Option AttrKind) → IsSettled (exit_by t kind)
exit_settled t None = free
exit_settled t (Some attr.Requires) = exclusive 1
exit_settled t (Some attr.RequiresShared) = lent
exit_settled t (Some attr.Acquire) = exclusive 1
exit_settled t (Some attr.AcquireShared) = shared
exit_settled t (Some attr.TryAcquire) = taken_settled t (status.Exclusive 1) (exclusive 1)
exit_settled t (Some attr.TryAcquireShared) = taken_settled t status.Shared shared
exit_settled t (Some kind) = free

-- only tries go by the answer
exit_alike : (t r : Bool) (kind : AttrKind) → (is_try kind ≡ true → t ≡ r) → exit_by t (Some kind) ≡ exit_by r (Some kind)
exit_alike t r attr.TryAcquire same = ap (λ t. if_taken t (status.Exclusive 1)) (same refl)
exit_alike t r attr.TryAcquireShared same = ap (λ t. if_taken t status.Shared) (same refl)
exit_alike t r kind same = refl

silent_exit : (t : Bool) (kind : AttrKind) → claims kind ≡ false → exit_by t (Some kind) ≡ Free
silent_exit t attr.Requires e = differ (sym e)
silent_exit t attr.RequiresShared e = differ (sym e)
silent_exit t attr.Acquire e = differ (sym e)
silent_exit t attr.AcquireShared e = differ (sym e)
silent_exit t attr.TryAcquire e = differ (sym e)
silent_exit t attr.TryAcquireShared e = differ (sym e)
silent_exit t kind e = refl

-- what an `int` says is what it holds
held_as_told : (l : Layout) (number : Number) (b : Bool) → answer_in number ≡ Some b → is_value_of l type.Int (of_number number) ≡ true
    → answer_held (of_number number) ≡ Some b
held_as_told l (numeral.Int (pos n)) b told int = told
held_as_told l (numeral.Int (negsuc n)) b told int = none_is_some told
held_as_told l (numeral.Unsigned n) b told int = differ int

any_try : (ats : List Attr) (a : Attr) → Contains ats a → is_try a.kind ≡ true → list_any (λ a. is_try a.kind) ats ≡ true
any_try [] a i e = let l = i.1 in absurd (omega (arith, l))
any_try (b ∷ rest) a i e = by (is_try b.kind) refl i (λ j. any_try rest a j e)
  where
    by : (t : Bool) → is_try b.kind ≡ t → Contains (b ∷ rest) a → (Contains rest a → list_any (λ a. is_try a.kind) rest ≡ true)
        → list_any (λ a. is_try a.kind) (b ∷ rest) ≡ true
    by true is j more = or_left (is_try b.kind) (list_any (λ a. is_try a.kind) rest) is
    by false is (zero, l, same) more = differ (sym is ∙ (ap (λ a. is_try a.kind) same ∙ e))
    by false is (suc n, l, same) more = or_right (is_try b.kind) (list_any (λ a. is_try a.kind) rest) (more (n, omega (arith, l), same))

exit_claims : (t : Bool) (kind : AttrKind) → (exit_by t (Some kind) ≡ Free → ⊥) → claims kind ≡ true
exit_claims t kind some = by (claims kind) refl
  where
    by : (b : Bool) → claims kind ≡ b → claims kind ≡ true
    by true e = e
    by false e = absurd (some (silent_exit t kind e))

module _ (u : Program) (x : ProgramRows) (held : Holds) (frame : Frame) (below : List Frame) (facts : FunctionFacts u x frame.function)
    (fits : StackFits u x held frame below)
    (laid : LaidOut u.layout) (v : Value) (returns : Returns u frame.locals (point_of u frame).action frame.work (to_leave v)) where
  abbrev k : Setting
  k = setting_behind u (function_of u frame) (point_of u frame)

  abbrev stable : ℕ → Bool
  stable = stable_of (function_of u frame).body

  same_value : {w : Value} → to_leave w ≡ to_leave v → w ≡ v
  same_value e = cc

  value : rvalue u.layout frame.locals returns.right ≡ yields v
  value = returns.found ∙ ap yields (same_value returns.does)

  worked : IsWorked k stable frame.locals returns.written returns.right
  worked =
      let sides = subst (WorkFits u (function_of u frame) (point_of u frame) frame.locals) returns.is fits.work in
      subst (λ a. IsWorked k stable frame.locals (right_of a) returns.right) returns.gives sides.right_side

  acts : ActionHolds k (function_of u frame).result (give returns.kind returns.written)
  acts = subst (ActionHolds k (function_of u frame).result) returns.gives (facts.points frame.point).kinds.1

  has_kind : (given : Kind) → value_kind k returns.written ≡ Some given → HasKind u.layout given v
  has_kind given known = value_fits k stable frame.locals laid fits.top.typed returns.written returns.right given v
      (subst (RightFits k stable) returns.gives (facts.points frame.point).right_fits) worked known value

  -- what is given back is of the function's kind
  pub result_fits : scalar_kind (function_of u frame).result ≡ true → is_value_of u.layout (function_of u frame).result v ≡ true
  result_fits scalar =
      let serve = acts.1 (subst (λ kind. scalar_kind kind ≡ true) (sym acts.0) scalar) in
      subst (λ kind. is_value_of u.layout kind v ≡ true) acts.0
      (scalar_served u.layout serve.0 returns.kind v (subst IsScalar (sym acts.0) (facts.entered.result scalar)) serve.1.1 (has_kind serve.0 serve.1.0))

  -- and where the function tries, it is the answer that is told
  module _ (tries : list_any (λ a. is_try a.kind) (attrs_of u frame) ≡ true) where
    told : (returns.kind ≡ type.Int) × IsSome (condition.answer_of returns.written)
    told = subst GivesAnAnswer returns.gives (facts.entered.answers tries frame.point)

    int_fits : is_value_of u.layout type.Int v ≡ true
    int_fits =
        let int : (function_of u frame).result ≡ type.Int = sym acts.0 ∙ told.0 in
        subst (λ kind. is_value_of u.layout kind v ≡ true) int (result_fits (subst (λ kind. scalar_kind kind ≡ true) (sym int) refl))

    answer_by : (o : Option Bool) → condition.answer_of returns.written ≡ o → IsSome o → (b : Bool) × (condition.answer_of returns.written ≡ Some b) ×
        (answer_held v ≡ Some b)
    answer_by None e some = absurd cc
    answer_by (Some b) e some =
        let number = chained answer_in (constant_in returns.written) b e in
        let is = constant_value k stable frame.locals returns.written returns.right number.0 v (is_constant returns.written) refl
        (constant_result returns.written) refl number.1
        worked value in
        (b, e, ap answer_held is ∙ held_as_told u.layout number.0 b number.2 (subst (λ w. is_value_of u.layout type.Int w ≡ true) is int_fits))

    pub answered : (b : Bool) × (condition.answer_of returns.written ≡ Some b) × (answer_held v ≡ Some b)
    answered = answer_by (condition.answer_of returns.written) refl told.1

  same_answers : list_any (λ a. is_try a.kind) (attrs_of u frame) ≡ true → answer_given (point_of u frame).action ≡ answer_held v
  same_answers tries = let own = answered tries in ap answer_given returns.gives ∙ own.1 ∙ sym own.2

  exit_same : (a : Attr) → Contains (attrs_of u frame) a → exit_with (answer_given (point_of u frame).action) (Some a) ≡ exit_with (answer_held v) (Some a)
  exit_same a i = exit_alike (is_success a.success (answer_given (point_of u frame).action)) (is_success a.success (answer_held v)) a.kind
      (λ e. ap (is_success a.success) (same_answers (any_try (attrs_of u frame) a i e)))

  -- The status of each path is that of the exit.
  module _ (c : Way) (i : Contains (paths_of x frame) c) where
    now_is : status_now u x frame c ≡ exit (function_of u frame) frame.point c
    now_is = ap (λ work. status_by u frame work c (status_before x frame c)) returns.is
        ∙ what_does_not_fail_fits TS09 u (function_of u frame) frame.point c (status_before x frame c)
        (facts.kept.breaks_none TS09 frame.point c fits.top.listed i) (ap is_leaving returns.gives)

    pub settled_now : settled_in u frame (status_now u x frame) c ≡ exit_with (answer_held v) (claim (attrs_of u frame) c)
    settled_now = ap (settled u (function_of u frame) frame.locals c) now_is
        ∙ settled_is u (function_of u frame) frame.locals c (exit (function_of u frame) frame.point c)
        (exit_settled (is_taken_by (answer_given (point_of u frame).action) (claim (attrs_of u frame) c)) (kind_of (claim (attrs_of u frame) c)))
        ∙ by (claim (attrs_of u frame) c) refl
      where
        by : (o : Option Attr) → claim (attrs_of u frame) c ≡ o → exit_with (answer_given (point_of u frame).action) o ≡ exit_with (answer_held v) o
        by None e = refl
        by (Some a) e = exit_same a (found (attrs_of u frame) c a e).there

  -- so it owns what its attributes stand for
  pub owns_exit : (lock : ℕ) (mode : Mode) → owned u x frame lock mode ≡ holds_named u frame.locals (λ a. exit_with (answer_held v) (Some a))
      (attrs_of u frame) lock mode
  owns_exit lock mode =
      let same = total_same (λ c. hold u frame.locals c (settled_in u frame (status_now u x frame) c) lock mode)
      (λ c. hold u frame.locals c (exit_with (answer_held v) (claim (attrs_of u frame) c)) lock mode) (paths_of x frame)
      (λ c i. ap (λ s. hold u frame.locals c s lock mode) (settled_now c i)) in
      let whole = split_named u frame.locals (paths_of x frame) facts.once (attrs_of u frame) facts.own (λ c i. facts.entered.once c)
      (exit_with (answer_held v)) refl
      (λ a e. silent_exit (is_success a.success (answer_held v)) a.kind e) lock mode (λ c. exit_with (answer_held v) (claim (attrs_of u frame) c))
      (λ c. Free) (λ c i. omega arith) in
      let none = none_held u frame.locals (paths_of x frame) lock mode in
      omega (arith, same, whole, none)

  -- and each that isn't free is a lock
  pub exits : All (λ a. (exit_with (answer_held v) (Some a) ≡ Free → ⊥) → IsSome (lock_named u frame.locals a)) (attrs_of u frame)
  exits = all_of (λ a. (exit_with (answer_held v) (Some a) ≡ Free → ⊥) → IsSome (lock_named u frame.locals a)) (attrs_of u frame) each
    where
      by : (a : Attr) → Contains (attrs_of u frame) a → (exit_with (answer_held v) (Some a) ≡ Free → ⊥) → (o : Option Way) → a.path ≡ o → IsSome o
          → IsSome (lock_named u frame.locals a)
      by a i some None e h = absurd cc
      by a i some (Some c) e h =
          let among = all_at (λ a. IsAmong (x.paths frame.function) a.path) (attrs_of u frame) a facts.own i c e in
          let claimed = claim_is (attrs_of u frame) c a i (join (claims a.kind) (names c a) (exit_claims (is_success a.success (answer_held v)) a.kind some)
          (names_own a c e)) (facts.entered.once c) in
          subst (λ o. IsSome (option_and_then (lock_in u frame.locals) o)) (sym e)
          (fits.top.locks c among (λ free. some (sym (settled_now c among ∙ ap (exit_with (answer_held v)) claimed) ∙ free)))

      each : (a : Attr) → Contains (attrs_of u frame) a → (exit_with (answer_held v) (Some a) ≡ Free → ⊥) → IsSome (lock_named u frame.locals a)
      each a i some = by a i some a.path refl (all_at (λ a. IsSome a.path) (attrs_of u frame) a facts.entered.named i)
