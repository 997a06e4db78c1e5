-- Locals that are set: paths that aren't free lead where they led, and what was tried stays known.
use Rattle.std.proofs.Common.{◌≡◌, ◌∙◌, ℕ, ◌≤◌, nat_eq, Bool, true, false, List, length, Option, Some, None, slice_get, ◌⊎◌, inl, inr, refl}
use Rattle.std.proofs.Common.{ap, sym, subst}
use Rattle.std.specs.Prelude.{Contains}
use Rattle.tsa_base.specs.declared.value.Value.{Value}
use Rattle.tsa_tree.specs.declared.kind.Kind.{Kind}
use Rattle.tsa_place_model.specs.Ways.{Way}
use Rattle.tsa_core.specs.Bodies.{Action, can_have, declare, set_local}
use Rattle.tsa_core.specs.Control.{Next}
use Rattle.tsa_core.specs.KindLaws.{signatures}
use Rattle.tsa_core.specs.Kinds.{Setting, binary_kind, value_kind}
use Rattle.tsa_core.specs.PointKinds.{ActionHolds, answer_of}
use Rattle.tsa_core.specs.Programs.{Program}
use Rattle.tsa_place_model.specs.Stores.{is_value_of}
use Rattle.tsa_core.specs.Terms.{Term}
use Rattle.tsa_rules.specs.declared.rule.Rule.TheVariants.{TS12}
use Rattle.tsa_rules.specs.declared.status.Status.TheVariants.{Free}
use Rattle.tsa_rules.specs.Attributes.{local_kinds}
use Rattle.tsa_rules.specs.Fails.{is_mentioned}
use Rattle.tsa_rules.specs.Fits.{FitsDeclaring}
use Rattle.tsa_rules.specs.Points.{local_begun, mentions, try_variables}
use Rattle.tsa_rules.proofs.Fitting.{what_does_not_fail_fits}
use Rattle.tsa_mean.specs.Acts.{point_of, to_set}
use Rattle.tsa_mean.specs.Frames.{frame_behind, or_here, point_behind, right_of}
use Rattle.tsa_mean.specs.Operators.{converted_to, operate_on}
use Rattle.tsa_mean.specs.Outs.{yields}
use Rattle.tsa_mean.specs.Returns.{attrs_of, lock_of}
use Rattle.tsa_mean.specs.States.{Frame, Holds, Work, working, running, holds_of}
use Rattle.tsa_mean.specs.Working.{local_at, rvalue, with_local}
use Rattle.tsa_sound.specs.Facts.{RightFits, FunctionFacts, IsUnmentioned, PointFacts, set_by}
use Rattle.tsa_sound.specs.FramesFit.{ProgramRows, SidesFit, WorkFits, function_of, paths_of, setting_with, settled_in, stable_of}
use Rattle.tsa_sound.specs.FramesFit.{status_before, status_by, status_now}
use Rattle.tsa_sound.specs.Invariant.{StackFits}
use Rattle.tsa_sound.specs.LaidOut.{LaidOut}
use Rattle.tsa_sound.specs.Laws.{IsSet, TurnsGoWell}
use Rattle.tsa_sound.specs.PartlyWorked.{IsWorked}
use Rattle.tsa_sound.specs.SettledStatuses.{lock_in, lock_named, settled}
use Rattle.tsa_sound.specs.TermFacts.{TermFits}
use Rattle.tsa_sound.proofs.Comes.{SetSource, of_assigned, of_declared, of_joined}
use Rattle.tsa_sound.proofs.Fresh.{later_uncalled}
use Rattle.tsa_sound.proofs.Going.{comes_from}
use Rattle.tsa_sound.proofs.GoingNext.{next_is}
use Rattle.tsa_sound.proofs.LocalsSet.{all_of_both, decided_stays, locals_keep, lock_stays, named_stays, set_length, settled_stays}
use Rattle.tsa_sound.proofs.Moves.{Goes, goes}
use Rattle.tsa_sound.proofs.Says.{bound}
use Rattle.tsa_sound.proofs.Tests.{same_some}
use Rattle.tsa_sound.proofs.Threads.{before_turn, own_turn, safe_by_act}
use Rattle.tsa_sound.proofs.ValuesFit.{HasKind, conversion_has, operation_has, value_fits}
use Rattle.tsa_sound.proofs.WriteLaw.{converted_told, has_integer, integer_value, number_told, served}

module _ (u : Program) (x : ProgramRows) (held : Holds) (frame : Frame) (below : List Frame) (facts : FunctionFacts u x frame.function) (fits : StackFits u x held frame below)
    (laid : LaidOut u.layout) where
  abbrev points : PointFacts u (x.paths frame.function) (function_of u frame) frame.point
  points = facts.points frame.point

  abbrev k : Setting
  k = setting_with u (function_of u frame) (answer_of (signatures u) (point_of u frame).call)

  -- a local is set at this point, to a value of its kind, and what isn't free doesn't mention it
  record IsGoodSet (n : ℕ) (v : Value) : Type 0 where
    pub right : Term
    pub left : Option Term
    pub old : Option Value
    pub is : frame.work ≡ working right left old
    pub goes_on : can_have (point_of u frame).action Next ≡ true
    pub sets : set_by (point_of u frame).call (point_of u frame).action ≡ Some n
    pub kind : Kind
    pub known : slice_get (local_kinds (function_of u frame)) n ≡ Some kind
    pub value : is_value_of u.layout kind v ≡ true
    pub mentioned : (c : Way) → Contains (paths_of x frame) c → (status_now u x frame c ≡ Free) ⊎ (mentions n c ≡ false)

  module _ (side right : Term) (left : Option Term) (old : Option Value) (action : Action) (sides : SidesFit u (function_of u frame) (point_of u frame) frame.locals right left old)
      (is : (point_of u frame).action ≡ action) (of_side : right_of action ≡ side)
      (side_fits : TermFits k (stable_of (function_of u frame).body) side) where
    side_has : (given : Kind) (v : Value) → value_kind k side ≡ Some given → rvalue u.layout frame.locals right ≡ yields v → HasKind u.layout given v
    side_has given v kind e = value_fits k (stable_of (function_of u frame).body) frame.locals laid fits.top.typed side right given v
        side_fits
        (subst (λ t. IsWorked k (stable_of (function_of u frame).body) frame.locals t right) (ap right_of is ∙ of_side) sides.right_side) kind e

  declaring : (c : Way) → Contains (paths_of x frame) c → FitsDeclaring (function_of u frame) frame.point c (status_before x frame c)
  declaring c i = what_does_not_fail_fits TS12 u (function_of u frame) frame.point c (status_before x frame c) (facts.kept.breaks_none TS12 frame.point c fits.top.listed i)

  by_mention : (n : ℕ) (kind : Kind) (side right : Term) (left : Option Term) (old : Option Value) → frame.work ≡ working right left old → (point_of u frame).call ≡ None
      → (point_of u frame).action ≡ declare n kind side → (c : Way) → Contains (paths_of x frame) c → (b : Bool) → mentions n c ≡ b
      → (status_now u x frame c ≡ Free) ⊎ (mentions n c ≡ false)
  by_mention n kind side right left old is none action c i false e = inr e
  by_mention n kind side right left old is none action c i true e = inl (
      ap (λ work. status_by u frame work c (status_before x frame c)) is ∙ later_uncalled u (function_of u frame) frame.point c (status_before x frame c) none
      ∙ declaring c i (ap (λ a. is_mentioned (local_begun a) c) action ∙ e))

  good : (work : Work) (n : ℕ) (v : Value) → frame.work ≡ work → WorkFits u (function_of u frame) (point_of u frame) frame.locals work
      → SetSource u frame.locals (point_of u frame).call (point_of u frame).action work n v → IsGoodSet n v
  good work n v is sides (of_declared right left old m w kind side none action value) =
      let acts = subst (ActionHolds k (function_of u frame).result) action points.kinds.1 in
      record {
        right = right;
        left = left;
        old = old;
        is = is;
        goes_on = ap (λ a. can_have a Next) action;
        sets = ap (λ c. set_by c (point_of u frame).action) none ∙ ap (set_by None) action;
        kind = kind;
        known = acts.0;
        value = served u.layout acts.1.0 kind w (local_at frame.locals m) acts.1.1.1 (side_has side right left old (declare m kind side) sides action refl (subst (RightFits k (stable_of (function_of u frame).body)) action points.right_fits) acts.1.0 w acts.1.1.0 value)
            (fits.top.typed m kind acts.0);
        mentioned = λ c i. by_mention m kind side right left old is none action c i (mentions m c) refl;
      }
  good work n v is sides (of_assigned right left old m w kind side action value) =
      let acts = subst (ActionHolds k (function_of u frame).result) action points.kinds.1 in
      record {
        right = right;
        left = left;
        old = old;
        is = is;
        goes_on = ap (λ a. can_have a Next) action;
        sets = ap (set_by (point_of u frame).call) action;
        kind = kind;
        known = acts.0;
        value = served u.layout acts.1.0 kind w (local_at frame.locals m) acts.1.1.1 (side_has side right left old (set_local m None kind side) sides action refl (subst (RightFits k (stable_of (function_of u frame).body)) action points.right_fits) acts.1.0 w acts.1.1.0 value)
            (fits.top.typed m kind acts.0);
        mentioned = λ c i. inr (points.assigned m None kind side c action i);
      }
  good work n v is sides (of_joined right left old m r z o kind side action value stored) =
      let acts = subst (ActionHolds k (function_of u frame).result) action points.kinds.1 in
      let told = number_told (binary_kind o kind acts.1.1.0) acts.1.1.1.1 in
      let made = bound (operate_on o (local_at frame.locals m) r) (λ y. converted_to kind y) z stored in
      record {
        right = right;
        left = left;
        old = old;
        is = is;
        goes_on = ap (λ a. can_have a Next) action;
        sets = ap (set_by (point_of u frame).call) action;
        kind = kind;
        known = acts.0;
        value = integer_value u.layout kind z acts.1.0
            (conversion_has u.layout kind told.0 kind made.0 z
            (operation_has u.layout o (points.whole_local m o kind side action) kind acts.1.1.0 told.0 (local_at frame.locals m) r made.0
            (has_integer u.layout kind (local_at frame.locals m) (fits.top.typed m kind acts.0) acts.1.0)
            (side_has side right left old (set_local m (Some o) kind side) sides action refl (subst (RightFits k (stable_of (function_of u frame).body)) action points.right_fits) acts.1.1.0 r acts.1.1.1.0 value) told.1 made.1)
            (converted_told kind told.0 acts.1.0 told.2) made.2);
        mentioned = λ c i. inr (points.assigned m (Some o) kind side c action i);
      }

  module _ (n : ℕ) (v : Value) (set : IsGoodSet n v) where
    tries : (w m : ℕ) → slice_get (try_variables u (function_of u frame)) w ≡ Some m → nat_eq m n ≡ false
    tries w m e = points.tries n w m set.sets e

    leads : (c : Way) → Contains (paths_of x frame) c
        → (settled_in u frame (status_now u x frame) c ≡ Free) ⊎ (lock_in u (with_local frame.locals n v) c ≡ lock_in u frame.locals c)
    leads c i = elim (set.mentioned c i) [
      | inl free ↦ inl (ap (settled u (function_of u frame) frame.locals c) free)
      | inr not ↦ inr (lock_stays u frame.locals n v c not)
    ]

    goes_set : Goes u x frame (with_local frame.locals n v) (or_here frame.point (point_behind u frame Next))
    goes_set =
        let next = next_is u x held frame below facts fits set.right set.left set.old set.is set.goes_on in
        record {
          listed = next.listed;
          settles = λ c i. ap (settled u (function_of u frame) (with_local frame.locals n v) c) (next.row c i)
              ∙ settled_stays u frame.locals n v (function_of u frame) c tries (status_now u x frame c);
          leads = leads;
          answers = λ c w i e. decided_stays u frame.locals n v (function_of u frame) c tries w (fits.top.answers c w i (sym (next.row c i) ∙ e));
          typed = locals_keep (λ j w. (kind : Kind) → slice_get (local_kinds (function_of u frame)) j ≡ Some kind → is_value_of u.layout kind w ≡ true) frame.locals n v fits.top.typed
              (λ kind e. subst (λ kind. is_value_of u.layout kind v ≡ true) (same_some (sym set.known ∙ e)) set.value);
          whole = subst (λ n. length (local_kinds (function_of u frame)) ≤ n) (sym (set_length frame.locals n v)) fits.top.whole;
          steady = all_of_both (λ a. lock_of u frame a ≡ lock_named u frame.locals a) (λ a. IsUnmentioned n a.path) (λ a. lock_of u frame a ≡ lock_named u (with_local frame.locals n v) a)
              (λ a same not. same ∙ sym (named_stays u frame.locals n v a.path not)) (attrs_of u frame) fits.top.steady (points.attributes n set.sets);
        }

    after_set : StackFits u x held (frame_behind u frame (with_local frame.locals n v) Next) below
    after_set = goes u x frame below (with_local frame.locals n v) (or_here frame.point (point_behind u frame Next)) goes_set held fits

pub sets_go_well : TurnsGoWell IsSet
sets_go_well u x s pick (to_set n v) facts inv turn is =
    let fits = before_turn u x s pick (to_set n v) turn inv in
    let function = facts.functions turn.frame.function fits.top.with_body in
    let set = good u x (holds_of s pick.thread) turn.frame turn.below function fits facts.laid turn.frame.work n v refl fits.work
    (comes_from u x (holds_of s pick.thread) turn.frame turn.below (to_set n v) fits turn.does) in
    record {
      kept = own_turn u x s pick (to_set n v) turn (running (frame_behind u turn.frame (with_local turn.frame.locals n v) Next) turn.below) inv refl
          (after_set u x (holds_of s pick.thread) turn.frame turn.below function fits facts.laid n v set);
      safe = safe_by_act u s pick (to_set n v) turn tt;
    }
sets_go_well u x s pick act facts inv turn is = absurd is
