-- Points that call nothing are left for others, with the statuses as they are.
use Rattle.std.proofs.Common.{◌≡◌, ◌∙◌, ℕ, ℤ, List, Option, Some, None, inr, refl, ap, sym, subst}
use Rattle.std.specs.Prelude.{Contains}
use Rattle.tsa_place_model.specs.Ways.{Way}
use Rattle.tsa_core.specs.Control.{Outcome, Next, Rest, Chosen}
use Rattle.tsa_core.specs.Programs.{Program}
use Rattle.tsa_rules.specs.declared.status.Status.TheVariants.{Pending}
use Rattle.tsa_rules.specs.Effects.{effect}
use Rattle.tsa_rules.specs.Points.{edges_of}
use Rattle.tsa_mean.specs.Acts.{Act, act_of, point_of, to_choose, to_step}
use Rattle.tsa_mean.specs.Frames.{frame_at, frame_behind, or_here, or_rest, point_behind}
use Rattle.tsa_mean.specs.States.{Frame, Holds, running, holds_of}
use Rattle.tsa_mean.specs.Steps.{int_in}
use Rattle.tsa_sound.specs.Facts.{FunctionFacts}
use Rattle.tsa_sound.specs.FramesFit.{ProgramRows, function_of, paths_of, status_before, status_by, status_now}
use Rattle.tsa_sound.specs.Invariant.{StackFits}
use Rattle.tsa_sound.specs.Laws.{IsChoice, IsStep, TurnsGoWell}
use Rattle.tsa_sound.specs.SettledStatuses.{settled}
use Rattle.tsa_sound.proofs.Comes.{Comes, IsBare, IsPlain, comes}
use Rattle.tsa_sound.proofs.Edges.{edge_to}
use Rattle.tsa_sound.proofs.Fresh.{effect_untested, later_uncalled}
use Rattle.tsa_sound.proofs.Moves.{Goes, goes}
use Rattle.tsa_sound.proofs.Threads.{before_turn, own_turn, safe_by_act}

module _ (u : Program) (x : ProgramRows) (held : Holds) (frame : Frame) (below : List Frame) (facts : FunctionFacts u x frame.function) (fits : StackFits u x held frame below) where
  -- where nothing is called, the status now is that of the row
  module _ (bare : IsBare (point_of u frame).call frame.work) where
    pub now_is : (c : Way) → status_now u x frame c ≡ status_before x frame c
    now_is c = ap (λ work. status_by u frame work c (status_before x frame c)) bare.is
        ∙ later_uncalled u (function_of u frame) frame.point c (status_before x frame c) bare.none

    -- a point that is left by an outcome which changes no settled status
    module _ (o : Outcome)
        (keeps : (c : Way) → Contains (paths_of x frame) c → settled u (function_of u frame) frame.locals c (effect u (function_of u frame) frame.point c o (status_before x frame c))
        ≡ settled u (function_of u frame) frame.locals c (status_before x frame c))
        (pends : (c : Way) (v : ℕ) → effect u (function_of u frame) frame.point c o (status_before x frame c) ≡ Pending v → status_before x frame c ≡ Pending v) where
      went_by : (to : Option ℕ) → point_behind u frame o ≡ to → Goes u x frame frame.locals (or_here frame.point to)
      went_by None is = record {
        listed = fits.top.listed;
        settles = λ c i. ap (settled u (function_of u frame) frame.locals c) (sym (now_is c));
        leads = λ c i. inr refl;
        answers = λ c v i pending. fits.top.answers c v i (now_is c ∙ pending);
        typed = fits.top.typed;
        whole = fits.top.whole;
        steady = fits.top.steady;
      }
      went_by (Some q) is =
          let there = edge_to (edges_of (function_of u frame)) frame.point q o is in
          record {
            listed = facts.kept.goes_on frame.point q o fits.top.listed there;
            settles = λ c i. ap (settled u (function_of u frame) frame.locals c) (facts.kept.goes_along frame.point q o c fits.top.listed there i)
                ∙ keeps c i ∙ ap (settled u (function_of u frame) frame.locals c) (sym (now_is c));
            leads = λ c i. inr refl;
            answers = λ c v i pending. fits.top.answers c v i
                (now_is c ∙ pends c v (sym (facts.kept.goes_along frame.point q o c fits.top.listed there i) ∙ pending));
            typed = fits.top.typed;
            whole = fits.top.whole;
            steady = fits.top.steady;
          }

      pub left : (to : Option ℕ) → point_behind u frame o ≡ to → StackFits u x held (frame_at u frame frame.locals (or_here frame.point to)) below
      left to is = goes u x frame below frame.locals (or_here frame.point to) (went_by to is) held fits

  -- a point whose outcome tells nothing
  module _ (plain : IsPlain (point_of u frame).call (point_of u frame).action frame.work) (o : Outcome) where
    pub left_plainly : (to : Option ℕ) → point_behind u frame o ≡ to → StackFits u x held (frame_at u frame frame.locals (or_here frame.point to)) below
    left_plainly = left plain.bare o
        (λ c i. ap (settled u (function_of u frame) frame.locals c)
        (effect_untested u (function_of u frame) frame.point c o (status_before x frame c) plain.bare.none plain.untold))
        (λ c v is. sym (effect_untested u (function_of u frame) frame.point c o (status_before x frame c) plain.bare.none plain.untold) ∙ is)

  -- a switch goes to its case, or to what is left
  pub chosen : IsPlain (point_of u frame).call (point_of u frame).action frame.work → (z : ℤ) (to : Option ℕ) → point_behind u frame (Chosen z) ≡ to
      → StackFits u x held (or_rest u frame to) below
  chosen plain z None is = left_plainly plain Rest (point_behind u frame Rest) refl
  chosen plain z (Some q) is = left_plainly plain (Chosen z) (Some q) is

-- what is known of the point of a thread whose turn it is
pub comes_from : (u : Program) (x : ProgramRows) (held : Holds) (frame : Frame) (below : List Frame) (act : Act) → StackFits u x held frame below → act_of u frame ≡ act
    → Comes u (function_of u frame) frame.locals (point_of u frame).call (point_of u frame).action frame.work act
comes_from u x held frame below act fits does =
    subst (Comes u (function_of u frame) frame.locals (point_of u frame).call (point_of u frame).action frame.work) does
    (comes u (function_of u frame) frame.locals (point_of u frame).call (point_of u frame).action frame.work fits.work)

pub steps_go_well : TurnsGoWell IsStep
steps_go_well u x s pick to_step facts inv turn is = record {
  kept = own_turn u x s pick to_step turn (running (frame_behind u turn.frame turn.frame.locals Next) turn.below) inv refl
      (let fits = before_turn u x s pick to_step turn inv in
      left_plainly u x (holds_of s pick.thread) turn.frame turn.below (facts.functions turn.frame.function fits.top.with_body) fits
      (comes_from u x (holds_of s pick.thread) turn.frame turn.below to_step fits turn.does) Next (point_behind u turn.frame Next) refl);
  safe = safe_by_act u s pick to_step turn tt;
}
steps_go_well u x s pick act facts inv turn is = absurd is

pub choices_go_well : TurnsGoWell IsChoice
choices_go_well u x s pick (to_choose v) facts inv turn is = record {
  kept = own_turn u x s pick (to_choose v) turn (running (or_rest u turn.frame (point_behind u turn.frame (Chosen (int_in v)))) turn.below) inv refl
      (let fits = before_turn u x s pick (to_choose v) turn inv in
      chosen u x (holds_of s pick.thread) turn.frame turn.below (facts.functions turn.frame.function fits.top.with_body) fits
      (comes_from u x (holds_of s pick.thread) turn.frame turn.below (to_choose v) fits turn.does) (int_in v) (point_behind u turn.frame (Chosen (int_in v))) refl);
  safe = safe_by_act u s pick (to_choose v) turn tt;
}
choices_go_well u x s pick act facts inv turn is = absurd is
