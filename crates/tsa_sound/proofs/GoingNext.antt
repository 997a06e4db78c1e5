-- A point whose work is done is left for the next one: the status now is that of the next row.
use Rattle.std.proofs.Common.{◌≡◌, ◌∙◌, ℕ, true, List, Option, Some, None, inr, refl, ap, sym, subst}
use Rattle.std.specs.Prelude.{Contains, IsSome}
use Rattle.tsa_base.specs.declared.value.Value.{Value}
use Rattle.tsa_place_model.specs.Ways.{Way}
use Rattle.tsa_core.specs.Bodies.{can_have}
use Rattle.tsa_core.specs.Control.{Next}
use Rattle.tsa_core.specs.Meanings.{Call}
use Rattle.tsa_core.specs.Programs.{Program}
use Rattle.tsa_core.specs.Terms.{Term}
use Rattle.tsa_rules.specs.Points.{edges_of}
use Rattle.tsa_mean.specs.Acts.{point_of}
use Rattle.tsa_mean.specs.Frames.{or_here, point_behind}
use Rattle.tsa_mean.specs.States.{Frame, Holds, working}
use Rattle.tsa_sound.specs.Facts.{FunctionFacts}
use Rattle.tsa_sound.specs.FramesFit.{ProgramRows, function_of, paths_of, status_before, status_by, status_now}
use Rattle.tsa_sound.specs.Invariant.{StackFits}
use Rattle.tsa_sound.specs.SettledStatuses.{settled}
use Rattle.tsa_sound.proofs.Edges.{edge_to}
use Rattle.tsa_sound.proofs.Fresh.{later_uncalled}
use Rattle.tsa_sound.proofs.Moves.{Goes}

module _ (u : Program) (x : ProgramRows) (held : Holds) (frame : Frame) (below : List Frame) (facts : FunctionFacts u x frame.function) (fits : StackFits u x held frame below)
    (right : Term) (left : Option Term) (old : Option Value) (is : frame.work ≡ working right left old) (can : can_have (point_of u frame).action Next ≡ true) where
  -- where the next point is, it is listed, and its row has what is known now
  pub record IsNext (q : ℕ) : Type 0 where
    pub listed : (x.rows frame.function).has_point q ≡ true
    pub row : (c : Way) → Contains (paths_of x frame) c → (x.rows frame.function).status q c ≡ status_now u x frame c

  now_is : (c : Way) → status_now u x frame c ≡ status_by u frame (working right left old) c (status_before x frame c)
  now_is c = ap (λ work. status_by u frame work c (status_before x frame c)) is

  next_by : (to : Option ℕ) → point_behind u frame Next ≡ to → (call : Option Call) → (point_of u frame).call ≡ call → IsNext (or_here frame.point to)
  next_by (Some q) e call c =
      let there = edge_to (edges_of (function_of u frame)) frame.point q Next e in
      record {
        listed = facts.kept.goes_on frame.point q Next fits.top.listed there;
        row = λ d i. facts.kept.goes_along frame.point q Next d fits.top.listed there i ∙ sym (now_is d);
      }
  next_by None e None c = record {
    listed = fits.top.listed;
    row = λ d i. sym (now_is d ∙ later_uncalled u (function_of u frame) frame.point d (status_before x frame d) c);
  }
  next_by None e (Some call) c =
      absurd (missing (subst IsSome e ((facts.points frame.point).goes_on Next (subst IsSome (sym c) refl) can)))
    where
      missing : IsSome {T = ℕ} None → ⊥
      missing h = cc

  pub next_is : IsNext (or_here frame.point (point_behind u frame Next))
  next_is = next_by (point_behind u frame Next) refl (point_of u frame).call refl

  -- so the frame goes there with its locals
  pub goes_next : Goes u x frame frame.locals (or_here frame.point (point_behind u frame Next))
  goes_next = record {
    listed = next_is.listed;
    settles = λ c i. ap (settled u (function_of u frame) frame.locals c) (next_is.row c i);
    leads = λ c i. inr refl;
    answers = λ c v i e. fits.top.answers c v i (sym (next_is.row c i) ∙ e);
    typed = fits.top.typed;
    whole = fits.top.whole;
    steady = fits.top.steady;
  }
