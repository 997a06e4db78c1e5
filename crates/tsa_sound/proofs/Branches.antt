-- Tests: a try variable's answer is told by the outcome, and settled statuses stay.
use Rattle.std.proofs.Common.{◌≡◌, ◌∙◌, ℕ, nat_lt, Bool, true, false, not, List, length, Option, Some, None, slice_get, refl, ap, sym}
use Rattle.std.proofs.Common.{subst}
use Rattle.std.specs.Prelude.{Contains}
use Rattle.tsa_place_model.specs.Ways.{Way}
use Rattle.tsa_core.specs.Programs.{Program}
use Rattle.tsa_rules.specs.declared.status.Status.TheVariants.{Pending}
use Rattle.tsa_rules.specs.Conditions.{Condition, Subject, the_call, the_local, answer_by, condition_at, condition_in}
use Rattle.tsa_rules.specs.Effects.{after_answer, after_asking, after_test, effect}
use Rattle.tsa_rules.specs.Points.{is_status, try_variables}
use Rattle.tsa_mean.specs.Acts.{point_of, to_branch}
use Rattle.tsa_mean.specs.Frames.{frame_behind, outcome_of, point_behind, right_of}
use Rattle.tsa_mean.specs.States.{Frame, Holds, running, holds_of}
use Rattle.tsa_mean.specs.Working.{local_at}
use Rattle.tsa_sound.specs.Facts.{FunctionFacts}
use Rattle.tsa_sound.specs.FramesFit.{IsDecided, ProgramRows, SidesFit, WorkFits, function_of, paths_of, setting_behind, stable_of}
use Rattle.tsa_sound.specs.FramesFit.{status_before}
use Rattle.tsa_sound.specs.Invariant.{StackFits}
use Rattle.tsa_sound.specs.Laws.{IsBranch, TurnsGoWell}
use Rattle.tsa_sound.specs.PartlyWorked.{IsWorked}
use Rattle.tsa_sound.specs.SettledStatuses.{answer_held, settled}
use Rattle.tsa_sound.proofs.Comes.{IsTest}
use Rattle.tsa_sound.proofs.Comparisons.{condition_tells}
use Rattle.tsa_sound.proofs.Deciding.{keeps_settled, still_pending}
use Rattle.tsa_sound.proofs.Fresh.{uncalled}
use Rattle.tsa_sound.proofs.Going.{comes_from, left, now_is}
use Rattle.tsa_sound.proofs.Tests.{same_some}
use Rattle.tsa_sound.proofs.Threads.{before_turn, own_turn, safe_by_act}

-- the answer that is meant by the outcome of a test
abbrev meant : Bool → Condition → Bool
meant true k = k.yes_means
meant false k = not k.yes_means

meant_is : (taken : Bool) (k : Condition) → answer_by (outcome_of taken) k ≡ Some (meant taken k)
meant_is true k = refl
meant_is false k = refl

module _ (u : Program) (x : ProgramRows) (held : Holds) (frame : Frame) (below : List Frame) (facts : FunctionFacts u x frame.function) (fits : StackFits u x held frame below)
    (taken : Bool) (test : IsTest u frame.locals (point_of u frame).call (point_of u frame).action frame.work taken) where
  -- the effect is that of the condition
  by_condition : (c : Way) (k : Option Condition) → condition_in test.written ≡ k
      → effect u (function_of u frame) frame.point c (outcome_of taken) (status_before x frame c) ≡ after_test u (function_of u frame) c (outcome_of taken) k (status_before x frame c)
  by_condition c k is =
      ap (after_test u (function_of u frame) c (outcome_of taken) (condition_at (point_of u frame).action))
      (uncalled u (function_of u frame) frame.point c (outcome_of taken) (status_before x frame c) test.bare.none)
      ∙ ap (λ t. after_test u (function_of u frame) c (outcome_of taken) t (status_before x frame c)) (ap condition_at test.tests ∙ is)

  sides : SidesFit u (function_of u frame) (point_of u frame) frame.locals test.bare.right test.bare.left test.bare.old
  sides = subst (WorkFits u (function_of u frame) (point_of u frame) frame.locals) test.bare.is fits.work

  -- the answer that a local holds is the one that is meant
  told : (k : Condition) (n : ℕ) → condition_in test.written ≡ Some k → k.subject ≡ the_local n → (h : Bool) → answer_held (local_at frame.locals n) ≡ Some h → h ≡ meant taken k
  told k n is local h holds =
      let worked = subst (λ a. IsWorked (setting_behind u (function_of u frame) (point_of u frame)) (stable_of (function_of u frame).body) frame.locals (right_of a) test.bare.right)
      test.tests sides.right_side in
      let tells = condition_tells (setting_behind u (function_of u frame) (point_of u frame)) (stable_of (function_of u frame).body) u.layout frame.locals n h holds
      test.value k local test.written test.bare.right is worked test.found in
      same_some (sym tells ∙ ap (λ b. answer_by (outcome_of b) k) (sym test.by) ∙ meant_is taken k)

  module _ (c : Way) (i : Contains (paths_of x frame) c) where
    less : (w : ℕ) → status_before x frame c ≡ Pending w → nat_lt w (length (try_variables u (function_of u frame))) ≡ true
    less w is = sym (ap (is_status u (function_of u frame) c) is) ∙ facts.possible frame.point c fits.top.listed i

    decided : (w : ℕ) → status_before x frame c ≡ Pending w → IsDecided u (function_of u frame) frame.locals c (slice_get (try_variables u (function_of u frame)) w)
    decided w is = fits.top.answers c w i (now_is u x held frame below facts fits test.bare c ∙ is)

    keeps_by : (k : Option Condition) → condition_in test.written ≡ k
        → settled u (function_of u frame) frame.locals c (after_test u (function_of u frame) c (outcome_of taken) k (status_before x frame c))
        ≡ settled u (function_of u frame) frame.locals c (status_before x frame c)
    keeps_by None is = refl
    keeps_by (Some k) is = by k.subject refl
      where
        by : (s : Subject) → k.subject ≡ s → settled u (function_of u frame) frame.locals c
            (after_asking u (function_of u frame) c s (answer_by (outcome_of taken) k) (status_before x frame c)) ≡ settled u (function_of u frame) frame.locals c (status_before x frame c)
        by the_call e = refl
        by (the_local n) e =
            ap (λ a. settled u (function_of u frame) frame.locals c (after_answer u (function_of u frame) c n a (status_before x frame c))) (meant_is taken k)
            ∙ keeps_settled u (function_of u frame) frame.locals c n (meant taken k) (told k n is e) (status_before x frame c) less decided

    keeps : settled u (function_of u frame) frame.locals c (effect u (function_of u frame) frame.point c (outcome_of taken) (status_before x frame c))
        ≡ settled u (function_of u frame) frame.locals c (status_before x frame c)
    keeps = ap (settled u (function_of u frame) frame.locals c) (by_condition c (condition_in test.written) refl) ∙ keeps_by (condition_in test.written) refl

  pends : (c : Way) (v : ℕ) → effect u (function_of u frame) frame.point c (outcome_of taken) (status_before x frame c) ≡ Pending v → status_before x frame c ≡ Pending v
  pends c v e = by (condition_in test.written) refl
    where
      asked : (k : Condition) → condition_in test.written ≡ Some k → (s : Subject) → k.subject ≡ s
          → after_asking u (function_of u frame) c s (answer_by (outcome_of taken) k) (status_before x frame c) ≡ Pending v → status_before x frame c ≡ Pending v
      asked k is the_call local e = e
      asked k is (the_local n) local e = still_pending u (function_of u frame) frame.locals c n (meant taken k) (told k n is local) (status_before x frame c) v
          (sym (ap (λ a. after_answer u (function_of u frame) c n a (status_before x frame c)) (meant_is taken k)) ∙ e)

      by : (k : Option Condition) → condition_in test.written ≡ k → status_before x frame c ≡ Pending v
      by None is = sym (by_condition c None is) ∙ e
      by (Some k) is = asked k is k.subject refl (sym (by_condition c (Some k) is) ∙ e)

  pub branched : StackFits u x held (frame_behind u frame frame.locals (outcome_of taken)) below
  branched = left u x held frame below facts fits test.bare (outcome_of taken) keeps pends (point_behind u frame (outcome_of taken)) refl

pub branches_go_well : TurnsGoWell IsBranch
branches_go_well u x s pick (to_branch taken) facts inv turn is = record {
  kept = own_turn u x s pick (to_branch taken) turn (running (frame_behind u turn.frame turn.frame.locals (outcome_of taken)) turn.below) inv refl
      (let fits = before_turn u x s pick (to_branch taken) turn inv in
      branched u x (holds_of s pick.thread) turn.frame turn.below (facts.functions turn.frame.function fits.top.with_body) fits taken
      (comes_from u x (holds_of s pick.thread) turn.frame turn.below (to_branch taken) fits turn.does));
  safe = safe_by_act u s pick (to_branch taken) turn tt;
}
branches_go_well u x s pick act facts inv turn is = absurd is
