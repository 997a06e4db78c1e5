-- Turns of frames worked out.
use Rattle.std.proofs.Common.{◌≡◌, ◌∙◌, ℕ, Bool, true, false, List, [], ◌∷◌, replicate, Option, Some, refl, ap, sym, subst, arith, codes}
use Rattle.std.specs.Prelude.{pos}
use Rattle.tsa_base.specs.declared.value.Value.{Value}
use Rattle.tsa_tree.specs.declared.attr.AttrKind.{AttrKind}
use Rattle.tsa_tree.specs.declared.attr.AttrKind.TheVariants as attr
use Rattle.tsa_tree.specs.declared.kind.Kind.{Kind}
use Rattle.tsa_core.specs.Programs.{Program}
use Rattle.tsa_sched.specs.declared.event.EventKind.{EventKind}
use Rattle.tsa_sched.specs.declared.event.EventKind.TheVariants as event
use Rattle.tsa_mean.specs.Acts.{Act, to_read, to_write, to_step, to_set, to_branch, to_ask, to_trap, act_of, on_lock}
use Rattle.tsa_mean.specs.Frames.{frame_by_case, frame_with_answer, work_at}
use Rattle.tsa_mean.specs.States.{ended, Frame, running, State, Thread, trapped}
use Rattle.tsa_mean.specs.Steps.{int_in, perform, Turn}
use Rattle.tsa_mean.specs.Working.{Locals}
use Rattle.tsa_mean.proofs.RunExamples.{turned}
use Rattle.tsa_lower_pools.specs.declared.code.Code.{Code}
use Rattle.tsa_exec_frames.specs.Deeds.{act_requested}
use Rattle.tsa_exec_frames.specs.Examples.{Arrives, begun, FrameState, int, IsAnswer, IsChoice, IsTouch, IsTurn, told_of, TurnsAreAsWritten, unit_of}
use Rattle.tsa_exec_frames.specs.Frames.{beginning, Pauses, Stands}
use Rattle.tsa_exec_frames.specs.Turning.{touched, TurnAnswers}
use Rattle.tsa_exec_frames.specs.declared.deed.Request.{Request}
use Rattle.tsa_exec_frames.specs.declared.deed.Request.TheVariants as request
use Rattle.tsa_exec_frames.specs.declared.turns.FrameTurn.{FrameTurn}
use Rattle.tsa_exec_frames.specs.declared.turns.FrameTurn.TheVariants.{Event, Trap, Request as Asks}
use Rattle.tsa_exec_frames.specs.declared.turns.Touch.{Touch}
use Rattle.tsa_exec_frames.proofs.FrameTurns.{begins_at}
use Rattle.tsa_exec_frames.proofs.UnitExamples.{answer_ready, both_ready, read_ready, Ready, store_ready, switch_ready}

-- an act that a frame does by itself is no request
own : Act → Bool
own (to_read place left) = true
own (to_write place v) = true
own to_step = true
own (to_set n v) = true
own (to_branch b) = true
own (to_trap kind) = true
own act = false

lock_is_not_own : (kind : AttrKind) (success : Bool) (lock f : ℕ) (result : Kind) → own (on_lock kind success lock (to_ask f result)) ≡ false
unfolding own
lock_is_not_own attr.Acquire success lock f result = refl
lock_is_not_own attr.AcquireShared success lock f result = refl
lock_is_not_own attr.TryAcquire success lock f result = refl
lock_is_not_own attr.TryAcquireShared success lock f result = refl
lock_is_not_own attr.Release success lock f result = refl
lock_is_not_own attr.ReleaseShared success lock f result = refl
lock_is_not_own attr.ReleaseGeneric success lock f result = refl
lock_is_not_own kind success lock f result = refl

request_is_not_own : (r : Request) (s : List Value) → own (act_requested r s) ≡ false
unfolding own
request_is_not_own (request.Choose v) s = refl
request_is_not_own (request.Leave v) s = refl
request_is_not_own (request.Enter f k n) s = refl
request_is_not_own (request.Lock kind success place f result) s = lock_is_not_own kind success place f result
request_is_not_own (request.Ask f result) s = refl

is_trap : EventKind → Bool
is_trap (event.Trap kind) = true
is_trap kind = false

-- the frame on top of a state's only thread
top_of : Frame → Thread → Frame
top_of d (running top below) = top
top_of d (trapped top below) = d
top_of d ended = d

first_top : Frame → List Thread → Frame
first_top d [] = d
first_top d (x ∷ rest) = top_of d x

-- a state with this store and one thread, and what the machine does with a frame there
abbrev with_this : List Value → State
with_this store = record { store = store; locks = []; threads = ended ∷ [] }

abbrev performed : Program → List Value → Frame → Turn
performed u store frame = perform u (with_this store) 0 frame [] (pos 0) (act_of u frame)

-- What comes of a turn of the frame's own.
record Goes (u : Program) (code : Code) (turn : FrameTurn) (new : FrameState) (frame : Frame) (next : Turn) : Type 0 where
  told : told_of turn ≡ Some next.1
  store_is : new.store ≡ next.0.store
  stands : Stands u code new.at new.locals new.slots (first_top frame next.0.threads)

module _ (u : Program) (code : Code) (store : List Value) (frame : Frame) (new : FrameState) where
  abbrev Answers : FrameTurn → Type 0
  Answers turn = TurnAnswers u code (with_this store) 0 (pos 0) frame [] turn new.at new.locals new.slots new.store

  tells : (turn : FrameTurn) → Answers turn → own (act_of u frame) ≡ true → told_of turn ≡ Some (performed u store frame).1
  tells (Event kind) is does = ap (λ k. Some k.1) (sym is.turn)
  tells (Trap kind) is does = ap (λ k. Some k.1) (sym is.turn_is)
  tells (Asks r) is does = let no : true ≡ false = sym does ∙ (ap own is.act ∙ request_is_not_own r new.slots) in absurd cc

  goes : (turn : FrameTurn) → Answers turn → own (act_of u frame) ≡ true → is_trap (performed u store frame).1 ≡ false → Goes u code turn new frame (performed u store frame)
  unfolding is_trap first_top top_of
  goes (Event kind) is does safe = record {
    told = ap (λ k. Some k.1) (sym is.turn);
    store_is = ap (λ k. k.0.store) (sym is.turn);
    stands = subst (λ f. Stands u code new.at new.locals new.slots f) (ap (λ k. first_top frame k.0.threads) (sym is.turn)) is.stands;
  }
  goes (Trap kind) is does safe = let no : true ≡ false = sym (ap (λ k. is_trap k.1) is.turn_is) ∙ safe in absurd cc
  goes (Asks r) is does safe = let no : true ≡ false = sym does ∙ (ap own is.act ∙ request_is_not_own r new.slots) in absurd cc

-- the machine's frame that begins with function 1, for which a frame in code stands
abbrev frame_of : Program → Locals → Frame
frame_of u locals = record { function = 1; args = []; point = 0; work = work_at u 1 0; locals = locals; at_call = λ l m. 0 }

-- A frame of a unit at its first point, with code that stands for the unit.
module _ (u : Program) (code : Code) (r : Ready u code) where
  starts : (locals : Locals) → Stands u code (beginning code 0) locals (replicate 4 (int 0)) (frame_of u locals)
  starts locals = begins_at u code (frame_of u locals) locals (replicate 4 (int 0)) 0 0 r.stands r.inside (omega (arith, r.four)) r.first

  pauses : (locals : Locals) → Pauses code (beginning code 0) locals (frame_of u locals)
  pauses locals = record { function_is = sym r.first.function_is; point_is = sym r.first.point_is; locals_are = refl }

  abbrev first_turn : Locals → List Value → Turn
  first_turn locals store = performed u store (frame_of u locals)

  first_told : (locals : Locals) (store : List Value) (turn : FrameTurn) (new : FrameState) → IsTurn u.layout code (begun code locals store) turn new
      → own (act_of u (frame_of u locals)) ≡ true → told_of turn ≡ Some (first_turn locals store).1
  first_told locals store turn new is does = tells u code store (frame_of u locals) new turn (is u (with_this store) 0 (pos 0) (frame_of u locals) [] refl r.stands refl (starts locals)) does

  first_goes : (locals : Locals) (store : List Value) (turn : FrameTurn) (new : FrameState) → IsTurn u.layout code (begun code locals store) turn new
      → own (act_of u (frame_of u locals)) ≡ true → is_trap (first_turn locals store).1 ≡ false → Goes u code turn new (frame_of u locals) (first_turn locals store)
  first_goes locals store turn new is does safe = goes u code store (frame_of u locals) new turn (is u (with_this store) 0 (pos 0) (frame_of u locals) [] refl r.stands refl (starts locals)) does safe

  -- and of a second turn
  abbrev second_frame : Locals → List Value → Frame
  second_frame locals store = first_top (frame_of u locals) (first_turn locals store).0.threads

  abbrev second_turn : Locals → List Value → Turn
  second_turn locals store = performed u (first_turn locals store).0.store (second_frame locals store)

  module _ (locals : Locals) (store : List Value) (mid new : FrameState) (first_one second : FrameTurn) (is : IsTurn u.layout code (begun code locals store) first_one mid) (then_is : IsTurn u.layout code mid second new)
      (does : own (act_of u (frame_of u locals)) ≡ true) (safe : is_trap (first_turn locals store).1 ≡ false) where
    went : Goes u code first_one mid (frame_of u locals) (first_turn locals store)
    went = first_goes locals store first_one mid is does safe

    second_told : own (act_of u (second_frame locals store)) ≡ true → told_of second ≡ Some (second_turn locals store).1
    second_told again = tells u code (first_turn locals store).0.store (second_frame locals store) new second
        (then_is u (with_this (first_turn locals store).0.store) 0 (pos 0) (second_frame locals store) [] refl r.stands (sym went.store_is) went.stands) again

    second_goes : own (act_of u (second_frame locals store)) ≡ true → is_trap (second_turn locals store).1 ≡ false → Goes u code second new (second_frame locals store) (second_turn locals store)
    second_goes again still = goes u code (first_turn locals store).0.store (second_frame locals store) new second
        (then_is u (with_this (first_turn locals store).0.store) 0 (pos 0) (second_frame locals store) [] refl r.stands (sym went.store_is) went.stands) again still

  answered : (locals : Locals) (v : Value) (new : FrameState) → IsAnswer u.layout code (begun code locals []) v new → Stands u code new.at new.locals new.slots (frame_with_answer u (frame_of u locals) v)
  answered locals v new is = is u (frame_of u locals) refl r.stands (pauses locals)

  touch_is : (locals : Locals) (touch : Option Touch) (new : FrameState) → IsTouch u.layout code (begun code locals []) touch new → touch ≡ touched (act_of u (frame_of u locals))
  touch_is locals touch new is = (is u (frame_of u locals) refl (starts locals)).0

  chosen_at : (locals : Locals) (v : Value) (new : FrameState) → IsChoice code (begun code locals []) v new → Stands u code new.at new.locals (replicate 4 (int 0)) (frame_by_case u (frame_of u locals) (int_in v))
  chosen_at locals v new is = is u (frame_of u locals) (replicate 4 (int 0)) r.stands (omega (arith, r.four)) (pauses locals)

arrives : (u : Program) (code : Code) (new : FrameState) (slots : List Value) (frame : Frame) (point : ℕ) (locals : Locals) → Stands u code new.at new.locals slots frame → frame.point ≡ point → frame.locals ≡ locals → Arrives code new point locals
arrives u code new slots frame point locals st p ls = record { point_is = sym st.point_is ∙ p; locals_are = sym st.locals_are ∙ ls }

pub as_written : TurnsAreAsWritten
unfolding turned own is_trap first_top top_of
as_written = record {
  reads = λ code is new turn does. first_told (unit_of (codes "g = a[i];")) code (read_ready code is) _ _ turn new does refl;
  then_writes = λ code is mid new first second does then_does.
      let went = second_goes (unit_of (codes "g = a[i];")) code (read_ready code is) _ _ mid new first second does then_does refl refl refl refl in
      record { told = went.told; locals_are = sym went.stands.locals_are; store_is = went.store_is };
  touches_what_it_reads = λ code is new touch does. touch_is (unit_of (codes "g = a[i];")) code (read_ready code is) _ touch new does;
  no_element = λ code is new turn does. first_told (unit_of (codes "a[i] = 1;")) code (store_ready code is) _ _ turn new does refl;
  left_side_alone = λ code is mid new first second does then_does.
      let went = second_goes (unit_of (codes "i = g && 10 / j;")) code (both_ready code is) _ _ mid new first second does then_does refl refl refl refl in
      record { told = went.told; locals_are = sym went.stands.locals_are; store_is = went.store_is };
  right_side_traps = λ code is mid new first second does then_does.
      second_told (unit_of (codes "i = g && 10 / j;")) code (both_ready code is) _ _ mid new first second does then_does refl refl refl;
  answer_sets = λ code is new does. arrives _ code new new.slots _ _ _ (answered (unit_of (codes "int x = h(i) + 1;")) code (answer_ready code is) _ _ new does) refl refl;
  case_chosen = λ code is new does. arrives _ code new _ _ _ _ (chosen_at (unit_of (codes "switch (i) { case 3: g = 1; }")) code (switch_ready code is) _ (int 3) new does) refl refl;
  rest_chosen = λ code is new does. arrives _ code new _ _ _ _ (chosen_at (unit_of (codes "switch (i) { case 3: g = 1; }")) code (switch_ready code is) _ (int 4) new does) refl refl;
}
