-- A return keeps the invariant: the frame below goes on with what is handed back to it, and a thread without one ends.
use Rattle.std.proofs.Common.{ℕ, List, [], ◌∷◌, Some, refl}
use Rattle.tsa_base.specs.declared.value.Value.{Value}
use Rattle.tsa_core.specs.Programs.{Program}
use Rattle.tsa_mean.specs.Acts.{point_of, to_leave}
use Rattle.tsa_mean.specs.Frames.{frame_with_answer}
use Rattle.tsa_mean.specs.States.{Frame, Holds, State, holds_of}
use Rattle.tsa_mean.specs.Steps.{thread_below}
use Rattle.tsa_sound.specs.Facts.{ProgramFacts}
use Rattle.tsa_sound.specs.FramesFit.{ProgramRows}
use Rattle.tsa_sound.specs.Invariant.{StackFits, ThreadFits}
use Rattle.tsa_sound.specs.Laws.{IsLeave, TurnsGoWell}
use Rattle.tsa_sound.proofs.AnsweredCalls.{answered}
use Rattle.tsa_sound.proofs.Balance.{leaves}
use Rattle.tsa_sound.proofs.ReturnsCome.{Returns, returned_by}
use Rattle.tsa_sound.proofs.Returning.{answer_kind, answer_tried, exits_there, sum_there}
use Rattle.tsa_sound.proofs.Threads.{before_turn, own_turn, safe_by_act}

module _ (u : Program) (x : ProgramRows) (held : Holds) (facts : ProgramFacts u x) (frame : Frame) (v : Value)
    (returns : Returns u frame.locals (point_of u frame).action frame.work (to_leave v)) where
  -- the caller goes on
  pub goes_below : (caller : Frame) (below : List Frame) → StackFits u x held frame (caller ∷ below) → StackFits u x held (frame_with_answer u caller v) below
  goes_below caller below fits =
      let function = facts.functions frame.function fits.top.with_body in
      let call = fits.lower.0 in
      let top = fits.lower.1 in
      answered u x caller below (facts.functions caller.function top.with_body) facts.laid top fits.lower.2 call.call call.there v
      (record {
        kind = answer_kind u x held frame caller below function fits facts.laid v returns;
        tried = answer_tried u x held frame caller below function fits facts.laid v returns;
      })
      (exits_there u x held frame caller below function fits facts.laid v returns) held (sum_there u x held frame caller below function fits facts.laid v returns)

  left : (s : State) (t : ℕ) (all : List Frame) (below : List Frame) → StackFits u x held frame below
      → ThreadFits u x held (Some (thread_below u s t frame all v below))
  left s t all [] fits = tt
  left s t all (caller ∷ below) fits = goes_below caller below fits

pub returns_go_well : TurnsGoWell IsLeave
returns_go_well u x s pick (to_leave v) facts inv turn is =
    let fits = before_turn u x s pick (to_leave v) turn inv in
    let returns = returned_by u turn.frame (to_leave v) turn.does tt in
    record {
      kept = own_turn u x s pick (to_leave v) turn (thread_below u s pick.thread turn.frame turn.below v turn.below) inv refl
          (left u x (holds_of s pick.thread) facts turn.frame v returns s pick.thread turn.below turn.below fits);
      safe = safe_by_act u s pick (to_leave v) turn
          (leaves u x (holds_of s pick.thread) turn.frame turn.below (facts.functions turn.frame.function fits.top.with_body) fits facts.laid v returns);
    }
returns_go_well u x s pick act facts inv turn is = absurd is
