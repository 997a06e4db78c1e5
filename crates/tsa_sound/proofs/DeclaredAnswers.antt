-- A call is answered into a local that is declared: what is tried is settled by what that holds.
use Rattle.std.proofs.Common.{◌≡◌, ◌∙◌, ℕ, zero, suc, ◌+◌, ◌<◌, ◌≤◌, Bool, true, false, ◌&&◌, List, [], ◌∷◌, length, Option, Some, None}
use Rattle.std.proofs.Common.{◌⊎◌, inl, inr, slice_get, refl, ap, sym, subst, arith}
use Rattle.std.specs.Prelude.{All, Contains, IsSome, cond}
use Rattle.tsa_base.specs.declared.value.Value.{Value}
use Rattle.tsa_base.specs.declared.value.Value.TheVariants.{Int, Unsigned, Pointer}
use Rattle.tsa_tree.specs.declared.attr.AttrKind.{AttrKind}
use Rattle.tsa_tree.specs.declared.attr.AttrKind.TheVariants as attr
use Rattle.tsa_tree.specs.declared.kind.Kind.{Kind}
use Rattle.tsa_tree.specs.declared.kind.Kind.TheVariants as type
use Rattle.tsa_tree.specs.types.Operands.{integer_kind}
use Rattle.tsa_place_model.specs.Ways.{Way}
use Rattle.tsa_core.specs.Bodies.{can_have, declare}
use Rattle.tsa_place_model.specs.Calls.{Layout}
use Rattle.tsa_core.specs.Control.{Next}
use Rattle.tsa_core.specs.Kinds.{Setting, conversion_kind, if_so, scalar_kind, value_kind}
use Rattle.tsa_core.specs.Meanings.{Call}
use Rattle.tsa_core.specs.PointKinds.{ActionHolds}
use Rattle.tsa_core.specs.Programs.{Attr, Function, Program}
use Rattle.tsa_place_model.specs.Stores.{is_value_of}
use Rattle.tsa_core.specs.Terms.{Term, answer, converted}
use Rattle.tsa_rules.specs.declared.rule.Rule.TheVariants.{TS12}
use Rattle.tsa_rules.specs.declared.status.Status.{Status}
use Rattle.tsa_rules.specs.declared.status.Status.TheVariants as status
use Rattle.tsa_rules.specs.declared.status.Status.TheVariants.{Free, Lent, Pending}
use Rattle.tsa_rules.specs.Attributes.{claim, claims, claims_path, is_reentrant, is_try, kind_of, local_kinds, names, tries_path, try_of}
use Rattle.tsa_rules.specs.Effects.{after_attempt, after_call, after_claim, attempt_at, effect, exit_with, if_taken, is_success}
use Rattle.tsa_rules.specs.Effects.{left_by_try, taken_by}
use Rattle.tsa_rules.specs.Fails.{is_mentioned}
use Rattle.tsa_rules.specs.Points.{attrs_at, function_at, is_a_try, local_begun, mentions, try_kept, try_number, try_variables}
use Rattle.tsa_sched.specs.declared.event.Mode.{Mode}
use Rattle.tsa_mean.specs.Acts.{point_of}
use Rattle.tsa_mean.specs.Frames.{frame_behind, or_none, value_with_answer}
use Rattle.tsa_mean.specs.Operators.{converted_to}
use Rattle.tsa_mean.specs.Outs.{yields}
use Rattle.tsa_mean.specs.Returns.{attrs_of, lock_of}
use Rattle.tsa_mean.specs.States.{Frame, Holds}
use Rattle.tsa_mean.specs.Working.{Locals, local_at, rvalue, with_answer, with_local}
use Rattle.tsa_sound.specs.CallFacts.{CallFacts, Declares, IsAnswer, IsUnmentioned, TakesAnswer, UsesAnswer}
use Rattle.tsa_sound.specs.Facts.{FunctionFacts, RightFits}
use Rattle.tsa_sound.specs.FramesFit.{FrameFits, IsDecided, ProgramRows, function_of, owned_below, owned_by_caller, paths_of}
use Rattle.tsa_sound.specs.FramesFit.{setting_behind, stable_of, status_before}
use Rattle.tsa_sound.specs.Invariant.{LowerFit, StackFits}
use Rattle.tsa_sound.specs.LaidOut.{LaidOut}
use Rattle.tsa_sound.specs.SettledStatuses.{answer_held, left_by, left_in, lock_in, lock_named, settled}
use Rattle.tsa_sound.proofs.CallAnswers.{AnswerFits, calls, given_is, goes_behind, is_tried, named_is, of_kind, untested}
use Rattle.tsa_sound.proofs.CallTests.{answered_worked}
use Rattle.tsa_sound.proofs.Claims.{holds_named}
use Rattle.tsa_sound.proofs.Constants.{differ}
use Rattle.tsa_sound.proofs.LocalsSet.{all_of_both, locals_keep, lock_stays, named_stays, other_local, set_length, set_local_at}
use Rattle.tsa_sound.proofs.PlacesStand.{chained}
use Rattle.tsa_sound.proofs.Tables.{FitsClaim, call_pending}
use Rattle.tsa_sound.proofs.Tests.{none_is_some, same_some}
use Rattle.tsa_sound.proofs.Transfer.{GoesOn, all_at, fits_at, fits_rule, found}
use Rattle.tsa_sound.proofs.ValuesFit.{value_fits}
use Rattle.tsa_sound.proofs.WriteLaw.{served}

-- a try claims
claims_try : (kind : AttrKind) → is_try kind ≡ true → claims kind ≡ true
claims_try attr.TryAcquire e = refl
claims_try attr.TryAcquireShared e = refl
claims_try kind e = differ e

-- the first that tries a path, where the first that claims it is a try, and where none does
none_tries : (ats : List Attr) (d : Way) → claim ats d ≡ None → try_of ats d ≡ None
none_tries [] d e = refl
none_tries (a ∷ rest) d e = by (claims_path d a) refl e (none_tries rest d)
  where
    silent : claims_path d a ≡ false → tries_path d a ≡ false
    silent is = by_kind (is_try a.kind) refl
      where
        by_kind : (t : Bool) → is_try a.kind ≡ t → (t && names d a) ≡ false
        by_kind false e = refl
        by_kind true e = ap (λ b. b && names d a) (sym (claims_try a.kind e)) ∙ is

    by : (t : Bool) → claims_path d a ≡ t → cond t (Some a) (claim rest d) ≡ None → (claim rest d ≡ None → try_of rest d ≡ None) → try_of (a ∷ rest) d ≡ None
    by true is e more = absurd (some_none e)
      where
        some_none : ◌≡◌ {A = Option Attr} (Some a) None → ⊥
        some_none e = cc
    by false is e more = ap (λ b. cond b (Some a) (try_of rest d)) (silent is) ∙ more e

first_tries : (ats : List Attr) (d : Way) (a : Attr) → claim ats d ≡ Some a → is_try a.kind ≡ true → try_of ats d ≡ Some a
first_tries [] d a e tries = none_is_some e
first_tries (b ∷ rest) d a e tries = by (claims_path d b) refl e (λ e. first_tries rest d a e tries)
  where
    tried : Some b ≡ Some a → names d b ≡ true → tries_path d b ≡ true
    tried same named = ap (λ t. t && names d b) (ap (λ b. is_try b.kind) (same_some same) ∙ tries) ∙ named

    naming : (b c : Bool) → (b && c) ≡ true → c ≡ true
    naming true c e = e
    naming false c e = differ e

    silent : claims_path d b ≡ false → tries_path d b ≡ false
    silent is = by_kind (is_try b.kind) refl
      where
        by_kind : (t : Bool) → is_try b.kind ≡ t → (t && names d b) ≡ false
        by_kind false e = refl
        by_kind true e = ap (λ t. t && names d b) (sym (claims_try b.kind e)) ∙ is

    by : (t : Bool) → claims_path d b ≡ t → cond t (Some b) (claim rest d) ≡ Some a → (claim rest d ≡ Some a → try_of rest d ≡ Some a) → try_of (b ∷ rest) d ≡ Some a
    by true is e more = ap (λ t. cond t (Some b) (try_of rest d)) (tried e (naming (claims b.kind) (names d b) is)) ∙ e
    by false is e more = ap (λ t. cond t (Some b) (try_of rest d)) (silent is) ∙ more e

-- what stands in a list stands inside
pub inside : {A : Type 0} (xs : List A) (i : ℕ) (a : A) → slice_get xs i ≡ Some a → i < length xs
inside [] i a e = none_is_some e
inside (y ∷ ys) zero a e = omega arith
inside (y ∷ ys) (suc i) a e = let l = inside ys i a e in omega (arith, l)

-- a number can be converted
number_of : (l : Layout) (kind : Kind) (v : Value) → integer_kind kind ≡ true → is_value_of l kind v ≡ true → (to : Kind) → (w : Value) × (converted_to to v ≡ yields w)
number_of l kind (Int z) integer value to = (_, refl)
number_of l kind (Unsigned n) integer value to = (_, refl)
number_of l type.Int (Pointer p) integer value to = differ value
number_of l type.Unsigned (Pointer p) integer value to = differ value
number_of l type.Void (Pointer p) integer value to = differ value
number_of l type.Null (Pointer p) integer value to = differ value
number_of l type.Function (Pointer p) integer value to = differ value
number_of l (type.Structure n) (Pointer p) integer value to = differ value
number_of l (type.Pointer n c) (Pointer p) integer value to = differ integer

from_integer : (to kind given : Kind) → conversion_kind to kind ≡ Some given → integer_kind kind ≡ true
from_integer to kind given e = by (integer_kind to) (integer_kind kind) e
  where
    by : (a b : Bool) → if_so (a && b) to ≡ Some given → b ≡ true
    by true true e = refl
    by true false e = none_is_some e
    by false b e = none_is_some e

-- an answer, converted or not, is worked out
answer_yields : (k : Setting) (l : Layout) (locals : Locals) (v : Value) (kind : Kind) → k.answer ≡ Some kind → is_value_of l kind v ≡ true
    → (y : Term) (given : Kind) → IsAnswer y → value_kind k y ≡ Some given → (w : Value) × (rvalue l locals (with_answer v y) ≡ yields w)
answer_yields k l locals v kind is value answer given of e = (v, refl)
answer_yields k l locals v kind is value (converted to answer) given of e =
    let inner = chained (conversion_kind to) k.answer given e in
    let same : inner.0 ≡ kind = same_some (sym inner.1 ∙ is) in
    number_of l kind v (ap integer_kind (sym same) ∙ from_integer to inner.0 given inner.2) value to
answer_yields k l locals v kind is value y given of e = absurd of

module _ (u : Program) (x : ProgramRows) (frame : Frame) (below : List Frame) (facts : FunctionFacts u x frame.function) (laid : LaidOut u.layout)
    (top : FrameFits u x (owned_below u x below) frame (status_before x frame)) (lower : LowerFit u x frame below)
    (c : Call) (there : (point_of u frame).call ≡ Some c) (v : Value) (answers : AnswerFits u c v)
    (exits : All (λ a. (exit_with (answer_held v) (Some a) ≡ Free → ⊥) → IsSome (lock_named u frame.locals a)) (attrs_at u (function_of u frame) frame.point))
    (held : Holds) (sum : (lock : ℕ) (mode : Mode) → held lock mode ≡ owned_by_caller u x frame lock mode
    + holds_named u frame.locals (λ a. exit_with (answer_held v) (Some a)) (attrs_at u (function_of u frame) frame.point) lock mode + owned_below u x below lock mode)
    (n : ℕ) (kind : Kind) (y : Term) (action : (point_of u frame).action ≡ declare n kind y) where
  abbrev f : Function
  f = function_of u frame

  abbrev k : Setting
  k = setting_behind u (function_of u frame) (point_of u frame)

  abbrev ats : List Attr
  ats = attrs_at u (function_of u frame) frame.point

  facts_here : CallFacts u (function_of u frame) frame.point c
  facts_here = calls u x frame below facts top lower c there v answers exits held sum

  declares : Declares u (function_of u frame) frame.point c n y
  declares = facts_here.declares n kind y action

  scalar : scalar_kind (function_at u c.function).result ≡ true
  scalar = facts_here.gives (subst UsesAnswer (sym action) tt)

  acts : ActionHolds k (function_of u frame).result (declare n kind y)
  acts = subst (ActionHolds k f.result) action (facts.points frame.point).kinds.1

  -- the value that the local begins with
  worked : (w : Value) × (rvalue u.layout frame.locals (with_answer v y) ≡ yields w)
  worked = answer_yields k u.layout frame.locals v (function_at u c.function).result
      (given_is u x frame below facts top lower c there v answers exits held sum scalar) (answers.kind scalar)
      y acts.1.0 declares.is_answer acts.1.1.0

  abbrev begun : Value
  begun = value_with_answer u frame v y

  abbrev new : Locals
  new = with_local frame.locals n (value_with_answer u frame v y)

  begun_is : value_with_answer u frame v y ≡ worked.0
  begun_is = ap or_none worked.1

  begun_typed : is_value_of u.layout kind (value_with_answer u frame v y) ≡ true
  begun_typed = subst (λ w. is_value_of u.layout kind w ≡ true) (sym begun_is)
      (served u.layout acts.1.0 kind worked.0 (local_at frame.locals n) acts.1.1.1
      (value_fits k (stable_of f.body) frame.locals laid top.typed y (with_answer v y) acts.1.0 worked.0 (subst (RightFits k (stable_of f.body)) action
      (facts.points frame.point).right_fits)
      (answered_worked k (stable_of f.body) frame.locals v (of_kind u x frame below facts top lower c there v answers exits held sum scalar) y) acts.1.1.0 worked.1)
      (top.typed n kind acts.0))

  in_locals : n < length frame.locals
  in_locals = let l = inside (local_kinds f) n kind acts.0 in let whole = top.whole in omega (arith, l, whole)

  -- of a try it is the answer
  tried_value : is_a_try u (Some c) ≡ true → local_at new n ≡ v
  tried_value tries = set_local_at frame.locals n begun in_locals
      ∙ ap (λ t. or_none (rvalue u.layout frame.locals (with_answer v t))) (subst TakesAnswer action (facts_here.tries tries).0).1

  -- and the local is the try variable of its number, with the tries of this call
  kept_here : (d : Way) → is_a_try u (Some c) ≡ true → try_kept u (function_of u frame) n d ≡ try_of (attrs_at u (function_of u frame) frame.point) d
  kept_here d tries = ap (λ p. try_of (attrs_at u f p) d) (declares.variable tries).0

  unclaimed_left : (d : Way) → claim (attrs_at u (function_of u frame) frame.point) d ≡ None → (w : ℕ) (o : Option ℕ)
      → slice_get (try_variables u (function_of u frame)) w ≡ o
      → left_in u (function_of u frame) new d o ≡ left_in u (function_of u frame) frame.locals d o
  unclaimed_left d none w None e = refl
  unclaimed_left d none w (Some m) e = elim (declares.variables w m e) [
    | inl other ↦ ap (λ z. left_by (try_kept u f m d) (answer_held z)) (other_local u frame.locals n begun m other)
    | inr same ↦ free_both m (kept_none same.0 same.1)
  ]
    where
      kept_none : is_a_try u (Some c) ≡ true → m ≡ n → try_kept u f m d ≡ None
      kept_none tries is = ap (λ m. try_kept u f m d) is ∙ kept_here d tries ∙ none_tries ats d none

      nothing : (o : Option Bool) → left_by None o ≡ Free
      nothing None = refl
      nothing (Some b) = refl

      free_both : (m : ℕ) → try_kept u f m d ≡ None → left_by (try_kept u f m d) (answer_held (local_at new m))
          ≡ left_by (try_kept u f m d) (answer_held (local_at frame.locals m))
      free_both m is = ap (λ t. left_by t (answer_held (local_at new m))) is ∙ nothing (answer_held (local_at new m))
          ∙ sym (nothing (answer_held (local_at frame.locals m))) ∙ ap (λ t. left_by t (answer_held (local_at frame.locals m))) (sym is)

  unclaimed_settled : (d : Way) → claim (attrs_at u (function_of u frame) frame.point) d ≡ None → (s : Status)
      → settled u (function_of u frame) new d s ≡ settled u (function_of u frame) frame.locals d s
  unclaimed_settled d none Free = refl
  unclaimed_settled d none status.Shared = refl
  unclaimed_settled d none (status.Exclusive m) = refl
  unclaimed_settled d none Lent = refl
  unclaimed_settled d none (Pending w) = unclaimed_left d none w (slice_get (try_variables u f) w) refl

  -- what is tried is pending in the local, which has the answer
  tried_settled : (d : Way) (a : Attr) → claim (attrs_at u (function_of u frame) frame.point) d ≡ Some a → is_try a.kind ≡ true → is_a_try u (Some c) ≡ true
      → (h : Bool) → answer_held v ≡ Some h
      → settled u (function_of u frame) new d (Pending (try_number u (function_of u frame) n)) ≡ if_taken (is_success a.success (Some h)) (taken_by a.kind)
  tried_settled d a e try_kind tries h holds =
      ap (left_in u f new d) (declares.variable tries).1
      ∙ ap (λ z. left_by (try_kept u f n d) (answer_held z)) (tried_value tries)
      ∙ ap (left_by (try_kept u f n d)) holds
      ∙ ap (λ t. left_by_try t h) (kept_here d tries ∙ first_tries ats d a e try_kind)

  tried : (d : Way) (a : Attr) → claim (attrs_at u (function_of u frame) frame.point) d ≡ Some a → is_try a.kind ≡ true
      → settled u (function_of u frame) new d (after_attempt (attempt_at u (function_of u frame) (point_of u frame).action Next a) (taken_by a.kind) Free)
      ≡ if_taken (is_success a.success (answer_held v)) (taken_by a.kind)
  tried d a e try_kind =
      ap (λ act. settled u f new d (after_attempt (attempt_at u f act Next a) (taken_by a.kind) Free)) action ∙ by (answer_held v) refl (answers.tried tries)
    where
      tries : is_a_try u (Some c) ≡ true
      tries = is_tried u x frame below facts top lower c there v answers exits held sum a (found ats d a e).there try_kind

      by : (o : Option Bool) → answer_held v ≡ o → IsSome o → settled u f new d (Pending (try_number u f n)) ≡ if_taken (is_success a.success o) (taken_by a.kind)
      by None holds some = absurd (missing some)
        where
          missing : IsSome {T = Bool} None → ⊥
          missing h = cc
      by (Some h) holds some = tried_settled d a e try_kind tries h holds

  -- a path that the local is mentioned by is free
  mentioned_free : (d : Way) → Contains (paths_of x frame) d → mentions n d ≡ true → status_before x frame d ≡ Free
  mentioned_free d i is = fits_rule u x frame facts top.listed TS12 d i (ap (λ a. is_mentioned (local_begun a) d) action ∙ is)

  unmentioned_claim : (d : Way) (a : Attr) → claim (attrs_at u (function_of u frame) frame.point) d ≡ Some a → mentions n d ≡ false
  unmentioned_claim d a e =
      let is = found ats d a e in
      subst (IsUnmentioned n) (named_is d a is.naming) (all_at (λ a. IsUnmentioned n a.path) ats a declares.called is.there)

  leads : (d : Way) → Contains (paths_of x frame) d
      → (settled u (function_of u frame) new d (effect u (function_of u frame) frame.point d Next (status_before x frame d)) ≡ Free) ⊎ (lock_in u new d
      ≡ lock_in u frame.locals d)
  leads d i = by (mentions n d) refl (claim ats d) refl
    where
      by : (b : Bool) → mentions n d ≡ b → (o : Option Attr) → claim ats d ≡ o
          → (settled u f new d (effect u f frame.point d Next (status_before x frame d)) ≡ Free) ⊎ (lock_in u new d ≡ lock_in u frame.locals d)
      by false is o e = inr (lock_stays u frame.locals n begun d is)
      by true is (Some a) e = differ (sym (unmentioned_claim d a e) ∙ is)
      by true is None e = inl (ap (settled u f new d)
          (untested u x frame below facts top lower c there v answers exits held sum Next d (after_call u f frame.point d Next (status_before x frame d))
          ∙ ap (λ o. after_claim u f frame.point d Next o (status_before x frame d)) e ∙ mentioned_free d i is))

  declared_on : GoesOn u x frame facts top.listed new Next (answer_held v)
  declared_on = record {
    untested = untested u x frame below facts top lower c there v answers exits held sum Next;
    others = λ d i e. unclaimed_settled d e (status_before x frame d);
    tries = λ d i a e tries. tried d a e tries;
    leads = leads;
  }

  -- what is pending is decided
  unclaimed_decided : (d : Way) → claim (attrs_at u (function_of u frame) frame.point) d ≡ None → (w : ℕ) (o : Option ℕ)
      → slice_get (try_variables u (function_of u frame)) w ≡ o
      → IsDecided u (function_of u frame) frame.locals d o → IsDecided u (function_of u frame) new d o
  unclaimed_decided d none w None e is = tt
  unclaimed_decided d none w (Some m) e (inl free) = inl free
  unclaimed_decided d none w (Some m) e (inr some) = elim (declares.variables w m e) [
    | inl other ↦ inr (subst (λ z. IsSome (answer_held z)) (sym (other_local u frame.locals n begun m other)) some)
    | inr same ↦ inr (subst (λ z. IsSome (answer_held z)) (sym (ap (local_at new) same.1 ∙ tried_value same.0)) (answers.tried same.0))
  ]

  decides : (d : Way) (w : ℕ) → Contains (paths_of x frame) d → effect u (function_of u frame) frame.point d Next (status_before x frame d) ≡ Pending w
      → IsDecided u (function_of u frame) new d (slice_get (try_variables u (function_of u frame)) w)
  decides d w i e = by (claim ats d) refl (fits_at u x frame facts top.listed d i)
      (sym (untested u x frame below facts top lower c there v answers exits held sum Next d (after_call u f frame.point d Next (status_before x frame d))) ∙ e)
    where
      same_variable : {m j : ℕ} → Pending m ≡ Pending j → m ≡ j
      same_variable e = cc

      by : (claimed : Option Attr) → claim ats d ≡ claimed → FitsClaim (is_reentrant u f d) (kind_of claimed) (status_before x frame d)
          → after_claim u f frame.point d Next claimed (status_before x frame d) ≡ Pending w → IsDecided u f new d (slice_get (try_variables u f) w)
      by None e fits is = unclaimed_decided d e w (slice_get (try_variables u f) w) refl (top.answers d w i is)
      by (Some a) e fits is =
          let claim = found ats d a e in
          let pending = call_pending (is_reentrant u f d) (attempt_at u f (point_of u frame).action Next a) a.kind (status_before x frame d) claim.claiming fits w is in
          let tries = is_tried u x frame below facts top lower c there v answers exits held sum a claim.there pending.0 in
          let number : try_number u f n ≡ w = same_variable (sym (ap (λ act. after_attempt (attempt_at u f act Next a) (taken_by a.kind) Free) action) ∙ pending.1) in
          subst (λ w. IsDecided u f new d (slice_get (try_variables u f) w)) number
          (subst (IsDecided u f new d) (sym (declares.variable tries).1) (inr (subst (λ z. IsSome (answer_held z)) (sym (tried_value tries)) (answers.tried tries))))

  pub declared_behind : StackFits u x held (frame_behind u frame (with_local frame.locals n (value_with_answer u frame v y)) Next) below
  declared_behind = goes_behind u x frame below facts top lower c there v answers exits held sum new Next declared_on decides
      (locals_keep (λ j w. (kind : Kind) → slice_get (local_kinds f) j ≡ Some kind → is_value_of u.layout kind w ≡ true) frame.locals n begun top.typed
      (λ other e. subst (λ kind. is_value_of u.layout kind begun ≡ true) (same_some (sym acts.0 ∙ e)) begun_typed))
      (subst (λ m. length (local_kinds f) ≤ m) (sym (set_length frame.locals n begun)) top.whole)
      (all_of_both (λ a. lock_of u frame a ≡ lock_named u frame.locals a) (λ a. IsUnmentioned n a.path) (λ a. lock_of u frame a ≡ lock_named u new a)
      (λ a same not. same ∙ sym (named_stays u frame.locals n begun a.path not)) (attrs_of u frame) top.steady declares.own)
      (ap (λ a. can_have a Next) action)
