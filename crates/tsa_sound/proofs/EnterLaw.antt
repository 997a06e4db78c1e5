-- A call of a function with a body keeps the invariant, and so does one that finds no room for a frame more.
use Rattle.std.proofs.Common.{◌≡◌, ℕ, ◌+◌, nat_lt, Bool, true, false, List, ◌∷◌, length, Option, Some, None, find, is_some, option_and_then}
use Rattle.std.proofs.Common.{slice_get, if◌then◌else◌, refl, ap, sym, subst}
use Rattle.std.specs.Prelude.{IsSome}
use Rattle.tsa_base.specs.declared.value.Value.{Value}
use Rattle.tsa_tree.specs.declared.attr.AttrKind.{AttrKind}
use Rattle.tsa_tree.specs.declared.attr.AttrKind.TheVariants as attr
use Rattle.tsa_tree.specs.declared.kind.Kind.{Kind}
use Rattle.tsa_core.specs.Programs.{Attr, Function, Program}
use Rattle.tsa_rules.specs.Points.{function_at}
use Rattle.tsa_path.specs.Values.{pointed_place}
use Rattle.tsa_sched.specs.declared.event.EventKind.TheVariants as event
use Rattle.tsa_sched.specs.declared.event.TrapKind.TheVariants as trap
use Rattle.tsa_mean.specs.Acts.{Act, act_of_call, act_outside, changes_lock, on_lock, on_pointed, point_of, to_ask, to_enter}
use Rattle.tsa_mean.specs.Frames.{frame_of_call}
use Rattle.tsa_mean.specs.Runs.{step}
use Rattle.tsa_mean.specs.States.{Frame, Holds, running, trapped, holds_of, with_thread}
use Rattle.tsa_mean.specs.Steps.{Turn, frame_limit, stops}
use Rattle.tsa_sound.specs.Facts.{ProgramFacts}
use Rattle.tsa_sound.specs.FramesFit.{ProgramRows}
use Rattle.tsa_sound.specs.Invariant.{Invariant, StackFits}
use Rattle.tsa_sound.specs.Laws.{IsEnter, TurnsGoWell}
use Rattle.tsa_sound.proofs.CallComes.{CallSource, called_by}
use Rattle.tsa_sound.proofs.NewFrame.{new_stack}
use Rattle.tsa_sound.proofs.Threads.{before_turn, own_turn, safe_by_act}

-- a call of a function without a body is none of one with a body
lock_no_enter : (kind : AttrKind) (success : Bool) (lock : ℕ) (act : Act) → (IsEnter act → ⊥) → IsEnter (on_lock kind success lock act) → ⊥
lock_no_enter attr.Acquire success lock act none is = is
lock_no_enter attr.AcquireShared success lock act none is = is
lock_no_enter attr.TryAcquire success lock act none is = is
lock_no_enter attr.TryAcquireShared success lock act none is = is
lock_no_enter attr.Release success lock act none is = is
lock_no_enter attr.ReleaseShared success lock act none is = is
lock_no_enter attr.ReleaseGeneric success lock act none is = is
lock_no_enter kind success lock act none is = none is

outside_no_enter : (n : ℕ) (result : Kind) (args : List Value) (a : Option Attr) → IsEnter (act_outside n result args a) → ⊥
outside_no_enter n result args None is = is
outside_no_enter n result args (Some a) is = by (option_and_then pointed_place (slice_get args 0)) is
  where
    by : (o : Option ℕ) → IsEnter (on_pointed a o (to_ask n result)) → ⊥
    by None is = is
    by (Some lock) is = lock_no_enter a.kind a.success lock (to_ask n result) (λ is. is) is

-- what is called has a body
record IsEntered (f : Function) (n g : ℕ) (args vs : List Value) : Type 0 where
  pub with_body : IsSome f.body
  pub function : n ≡ g
  pub arguments : args ≡ vs

entered : (f : Function) (n g : ℕ) (args vs : List Value) → act_of_call n f args ≡ to_enter g vs → IsEntered f n g args vs
entered f n g args vs e = by (is_some f.body) refl e
  where
    same_function : to_enter n args ≡ to_enter g vs → n ≡ g
    same_function e = cc

    same_arguments : to_enter n args ≡ to_enter g vs → args ≡ vs
    same_arguments e = cc

    by : (b : Bool) → is_some f.body ≡ b → (if b then to_enter n args else act_outside n f.result args (find (λ a. changes_lock a.kind) f.attrs))
        ≡ to_enter g vs → IsEntered f n g args vs
    by true is e = record { with_body = is; function = same_function e; arguments = same_arguments e }
    by false is e = absurd (outside_no_enter n f.result args (find (λ a. changes_lock a.kind) f.attrs) (subst IsEnter (sym e) tt))

module _ (u : Program) (x : ProgramRows) (held : Holds) (frame : Frame) (below : List Frame) (facts : ProgramFacts u x) (fits : StackFits u x held frame below) where
  -- the frames after the call
  pub called : (g : ℕ) (vs : List Value) → CallSource u frame.locals (point_of u frame).call frame.work (to_enter g vs)
      → StackFits u x held (frame_of_call u g vs held) (frame ∷ below)
  called g vs calls =
      let is = entered (function_at u calls.made.function) calls.made.function g calls.values vs (sym calls.does) in
      subst (λ vs. StackFits u x held (frame_of_call u g vs held) (frame ∷ below)) is.arguments
      (subst (λ g. StackFits u x held (frame_of_call u g calls.values held) (frame ∷ below)) is.function
      (new_stack u x held frame below (facts.functions frame.function fits.top.with_body) fits facts.laid facts.small calls.made calls.there calls.args
      calls.is calls.values
      calls.found is.with_body (facts.functions calls.made.function is.with_body)))

pub calls_go_well : TurnsGoWell IsEnter
calls_go_well u x s pick (to_enter g vs) facts inv turn is = record {
  kept = by (nat_lt (length turn.below + 1) frame_limit) refl;
  safe = safe_by_act u s pick (to_enter g vs) turn tt;
}
  where
    entering : Turn
    entering = (with_thread s pick.thread (running (frame_of_call u g vs (holds_of s pick.thread)) (turn.frame ∷ turn.below)), event.Called g)

    stopping : Turn
    stopping = stops u s pick.thread turn.frame turn.below trap.Depth

    by : (b : Bool) → nat_lt (length turn.below + 1) frame_limit ≡ b → Invariant u x (step u s pick).0
    by true e = own_turn u x s pick (to_enter g vs) turn (running (frame_of_call u g vs (holds_of s pick.thread)) (turn.frame ∷ turn.below)) inv
        (ap (λ (b : Bool). (if b then entering else stopping).0) e)
        (called u x (holds_of s pick.thread) turn.frame turn.below facts (before_turn u x s pick (to_enter g vs) turn inv) g vs
        (called_by u turn.frame (to_enter g vs) turn.does tt))
    by false e = own_turn u x s pick (to_enter g vs) turn (trapped turn.frame turn.below) inv (ap (λ (b : Bool). (if b then entering else stopping).0) e)
        (before_turn u x s pick (to_enter g vs) turn inv)
calls_go_well u x s pick act facts inv turn is = absurd is
