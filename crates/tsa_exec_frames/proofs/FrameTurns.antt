-- A turn of a frame in code is the machine's turn.
use Rattle.std.proofs.Common.{◌≡◌, ◌∙◌, ℕ, ℤ, ◌<◌, ◌≤◌, Bool, true, false, List, None, drop, length, slice_index_or, refl, ap, sym, subst, if◌then◌else◌}
use Rattle.tsa_base.specs.declared.value.Value.{Value}
use Rattle.tsa_base.specs.declared.value.Value.TheVariants.{Pointer}
use Rattle.tsa_core.specs.Control.{Next, Yes, No, Outcome}
use Rattle.tsa_core.specs.Programs.{Program}
use Rattle.tsa_place_model.specs.Calls.{Layout}
use Rattle.tsa_rules.specs.Points.{function_at, point_at}
use Rattle.tsa_sched.specs.declared.event.EventKind.TheVariants as event
use Rattle.tsa_mean.specs.Acts.{Act, to_read, to_write, to_step, to_set, to_branch, to_choose, to_take, to_try, to_give, to_ask, to_enter, to_leave, to_trap, act_of, point_of}
use Rattle.tsa_mean.specs.Frames.{frame_at, frame_behind, or_here, point_behind, with_work, work_at}
use Rattle.tsa_mean.specs.Outs.{TrapKind}
use Rattle.tsa_mean.specs.States.{Frame, State, Work, running, trapped, value_at, with_thread}
use Rattle.tsa_mean.specs.Steps.{perform}
use Rattle.tsa_mean.specs.Working.{Locals, with_local}
use Rattle.tsa_lower_going.specs.Doing.{doing, IsDone, IsRead, Tells}
use Rattle.tsa_lower_going.specs.Going.{Going, stops, gives}
use Rattle.tsa_lower_going.proofs.Doings.{frames_tell}
use Rattle.tsa_lower_code.specs.Codes.{act_in, going}
use Rattle.tsa_lower_code.specs.declared.instr.Ending.{Ending}
use Rattle.tsa_lower_pools.specs.Inside.{PointInside}
use Rattle.tsa_lower_pools.specs.Pools.{no_point, point_in}
use Rattle.tsa_lower_pools.specs.Units.{CodeStands, IsPoint, point_after, PointStands}
use Rattle.tsa_lower_pools.specs.declared.code.Code.{Code}
use Rattle.tsa_lower_pools.proofs.PointsOfUnits.{code_goes}
use Rattle.tsa_exec_frames.specs.Deeds.{act_done, locals_after, store_after}
use Rattle.tsa_exec_frames.specs.Frames.{beginning, Stands}
use Rattle.tsa_exec_frames.specs.Turning.{GoesOn, position_after, Reads, Stops, turn_of, TurnAnswers}
use Rattle.tsa_exec_frames.specs.declared.deed.Deed.{Deed}
use Rattle.tsa_exec_frames.specs.declared.deed.Deed.TheVariants as deed
use Rattle.tsa_exec_frames.specs.declared.frame.Position.{Position}

-- A read gives the frame with its value, of which the same is still to come.
record ReadTurn (u : Program) (s : State) (t : ℕ) (z : ℤ) (frame : Frame) (below : List Frame) (act : Act) (on : Work → Going Act) (place : ℕ) (left : Value → Going Act) : Type 0 where
  work : Work
  turn : perform u s t frame below z act ≡ (with_thread s t (running (with_work frame work) below), event.Read place (value_at s place))
  then_on : on work ≡ left (value_at s place)

read_turn : (u : Program) (s : State) (t : ℕ) (z : ℤ) (frame : Frame) (below : List Frame) (act : Act) (on : Work → Going Act) (place : ℕ) (left : Value → Going Act)
    → IsRead on act place left → ReadTurn u s t z frame below act on place left
read_turn u s t z frame below (to_read q k) on place left h = subst (λ n. ReadTurn u s t z frame below (to_read q k) on n left) h.0
    (record { work = k (value_at s q); turn = refl; then_on = h.1 (value_at s q) })
read_turn u s t z frame below (to_write q v) on place left h = absurd h
read_turn u s t z frame below to_step on place left h = absurd h
read_turn u s t z frame below (to_set n v) on place left h = absurd h
read_turn u s t z frame below (to_branch b) on place left h = absurd h
read_turn u s t z frame below (to_choose v) on place left h = absurd h
read_turn u s t z frame below (to_take m l) on place left h = absurd h
read_turn u s t z frame below (to_try m b l) on place left h = absurd h
read_turn u s t z frame below (to_give m l) on place left h = absurd h
read_turn u s t z frame below (to_ask f k) on place left h = absurd h
read_turn u s t z frame below (to_enter f args) on place left h = absurd h
read_turn u s t z frame below (to_leave v) on place left h = absurd h
read_turn u s t z frame below (to_trap k) on place left h = absurd h

-- a frame at the beginning of a point
pub begins_at : (u : Program) (code : Code) (frame : Frame) (locals : Locals) (slots : List Value) (n p : ℕ) → CodeStands u code → n < length code.points.items → code.slots ≤ length slots → IsPoint code n frame.function p
    → Stands u code (beginning code n) locals slots (frame_at u frame locals p)
begins_at u code frame locals slots n p stands inside long is = record {
  function_is = sym is.function_is;
  point_is = sym is.point_is;
  locals_are = refl;
  still_to_come = (code_goes u code stands n inside).begins locals slots long
      ∙ (ap (λ f. doing u locals (point_at (function_at u f) (point_in code n).point) (work_at u f (point_in code n).point)) is.function_is
      ∙ ap (λ q. doing u locals (point_at (function_at u frame.function) q) (work_at u frame.function q)) is.point_is);
}

module _ (u : Program) (code : Code) (s : State) (t : ℕ) (z : ℤ) (frame : Frame) (below : List Frame) (stands : CodeStands u code) where
  -- what is told of one frame and another with the same number and point
  leads : (at : Position) (locals : Locals) (slots : List Value) (o : Outcome) (n : ℕ) → frame.function ≡ (point_in code at.point).function → frame.point ≡ (point_in code at.point).point → n < length code.points.items
      → code.slots ≤ length slots → IsPoint code n (point_in code at.point).function (point_after u (point_in code at.point).function (point_in code at.point).point o) → Stands u code (beginning code n) locals slots (frame_behind u frame locals o)
  leads at locals slots o n function point inside long is = begins_at u code frame locals slots n (or_here frame.point (point_behind u frame o)) stands inside long
      (record {
        function_is = is.function_is ∙ sym function;
        point_is = is.point_is ∙ (ap (λ f. point_after u f (point_in code at.point).point o) (sym function) ∙ ap (λ p. point_after u frame.function p o) (sym point));
      })

  read_answers : (place : ℕ) (value : Value) (at : Position) (slots : List Value) (g : Going Act) → value ≡ slice_index_or s.store place (Pointer None)
      → frame.function ≡ (point_in code at.point).function → frame.point ≡ (point_in code at.point).point
      → g ≡ doing u frame.locals (point_of u frame) frame.work → Tells (doing u frame.locals (point_of u frame)) (act_of u frame) (doing u frame.locals (point_of u frame) frame.work)
      → Reads place value g (going u.layout frame.locals 0 (drop at.instr code.instrs.items) slots) → GoesOn u code s t z frame below (event.Read place value) at frame.locals slots s.store
  read_answers place value at slots g read function point still tells reads =
      let turn : ReadTurn u s t z frame below (act_of u frame) (doing u frame.locals (point_of u frame)) place reads.left
      = read_turn u s t z frame below (act_of u frame) (doing u frame.locals (point_of u frame)) place reads.left (subst (λ h. Tells (doing u frame.locals (point_of u frame)) (act_of u frame) h) (sym still ∙ reads.first) tells) in
      record {
        frame_after = with_work frame turn.work;
        stands = record {
          function_is = function;
          point_is = point;
          locals_are = refl;
          still_to_come = sym reads.then_on ∙ (ap reads.left read ∙ sym turn.then_on);
        };
        args_are = refl;
        holds_are = refl;
        turn = turn.turn ∙ ap (λ v. (with_thread s t (running (with_work frame turn.work) below), event.Read place v)) (sym read);
      }

  stop_answers : (kind : TrapKind) (g : Going Act) → g ≡ doing u frame.locals (point_of u frame) frame.work → Tells (doing u frame.locals (point_of u frame)) (act_of u frame) (doing u frame.locals (point_of u frame) frame.work)
      → g ≡ stops kind → perform u s t frame below z (act_of u frame) ≡ (with_thread s t (trapped frame below), event.Trap kind)
  stop_answers kind g still tells is = ap (perform u s t frame below z) (subst (λ h. Tells (doing u frame.locals (point_of u frame)) (act_of u frame) h) (sym still ∙ is) tells)

  -- a test goes one way
  branch_answers : (b : Bool) (at : Position) (slots : List Value) → PointInside (length code.instrs.items) (length code.points.items) (length code.cases.items) (point_in code at.point) → PointStands u code (point_in code at.point)
      → code.slots ≤ length slots → frame.function ≡ (point_in code at.point).function → frame.point ≡ (point_in code at.point).point → act_of u frame ≡ to_branch b
      → GoesOn u code s t z frame below (event.Branched b) (beginning code (if b then (point_in code at.point).yes else (point_in code at.point).no)) frame.locals slots s.store
  branch_answers true at slots inner here long function point act = record {
    frame_after = frame_behind u frame frame.locals Yes;
    stands = leads at frame.locals slots Yes (point_in code at.point).yes function point inner.yes long here.yes;
    args_are = refl;
    holds_are = refl;
    turn = ap (perform u s t frame below z) act;
  }
  branch_answers false at slots inner here long function point act = record {
    frame_after = frame_behind u frame frame.locals No;
    stands = leads at frame.locals slots No (point_in code at.point).no function point inner.no long here.no;
    args_are = refl;
    holds_are = refl;
    turn = ap (perform u s t frame below z) act;
  }

  -- the end of a point
  deed_answers : (d : Deed) (at : Position) (slots : List Value) → at.point < length code.points.items → code.slots ≤ length slots
      → frame.function ≡ (point_in code at.point).function → frame.point ≡ (point_in code at.point).point → act_of u frame ≡ act_done d slots
      → going u.layout frame.locals 0 (drop at.instr code.instrs.items) slots ≡ doing u frame.locals (point_of u frame) frame.work
      → TurnAnswers u code s t z frame below (turn_of d) (position_after code d at) (locals_after d frame.locals) slots (store_after d s.store)
  deed_answers deed.Step at slots inside long function point act still = record {
    frame_after = frame_behind u frame frame.locals Next;
    stands = leads at frame.locals slots Next (point_in code at.point).next function point (code.inside at.point no_point inside).next long (stands.points at.point inside).next;
    args_are = refl;
    holds_are = refl;
    turn = ap (perform u s t frame below z) act;
  }
  deed_answers (deed.Set n v) at slots inside long function point act still = record {
    frame_after = frame_behind u frame (with_local frame.locals n v) Next;
    stands = leads at (with_local frame.locals n v) slots Next (point_in code at.point).next function point (code.inside at.point no_point inside).next long (stands.points at.point inside).next;
    args_are = refl;
    holds_are = refl;
    turn = ap (perform u s t frame below z) act;
  }
  deed_answers (deed.Write place v) at slots inside long function point act still = record {
    frame_after = frame_behind u frame frame.locals Next;
    stands = leads at frame.locals slots Next (point_in code at.point).next function point (code.inside at.point no_point inside).next long (stands.points at.point inside).next;
    args_are = refl;
    holds_are = refl;
    turn = ap (perform u s t frame below z) act;
  }
  deed_answers (deed.Branch b) at slots inside long function point act still =
      branch_answers b at slots (code.inside at.point no_point inside) (stands.points at.point inside) long function point act
  deed_answers (deed.Request r) at slots inside long function point act still =
      record { act = act; stands = record { function_is = function; point_is = point; locals_are = refl; still_to_come = still }; store_is = refl }

-- The same of a code's own places, locals and store.
module _ (u : Program) (code : Code) (s : State) (t : ℕ) (z : ℤ) (frame : Frame) (below : List Frame) (stands : CodeStands u code) (before at : Position) (old slots : List Value) (same : at.point ≡ before.point) where
  tells : Tells (doing u frame.locals (point_of u frame)) (act_of u frame) (doing u frame.locals (point_of u frame) frame.work)
  tells = frames_tell u frame

  abbrev pub ReadTold : ℕ → Value → Layout → Locals → List Value → Type 0
  ReadTold place value l locals store = value ≡ slice_index_or store place (Pointer None)
      → Reads place value (going l locals 0 (drop before.instr code.instrs.items) old) (going l locals 0 (drop at.instr code.instrs.items) slots)
      → Stands u code before locals old frame → GoesOn u code s t z frame below (event.Read place value) at locals slots store

  pub read_told : (place : ℕ) (value : Value) (l : Layout) (locals : Locals) (store : List Value) → u.layout ≡ l → frame.locals ≡ locals → s.store ≡ store → ReadTold place value l locals store
  read_told place value l locals store el els est = subst (λ l. ReadTold place value l locals store) el (subst (λ ls. ReadTold place value u.layout ls store) els (subst (λ st. ReadTold place value u.layout frame.locals st) est
      (λ read reads before_stands. read_answers u code s t z frame below stands place value at slots (going u.layout frame.locals 0 (drop before.instr code.instrs.items) old) read
      (before_stands.function_is ∙ ap (λ n. (point_in code n).function) (sym same)) (before_stands.point_is ∙ ap (λ n. (point_in code n).point) (sym same)) before_stands.still_to_come tells reads)))

  abbrev pub StopTold : TrapKind → Layout → Locals → List Value → Type 0
  StopTold kind l locals store = going l locals 0 (drop before.instr code.instrs.items) old ≡ stops kind → Stands u code before locals old frame
      → Stops u s t z frame below (with_thread s t (trapped frame below), event.Trap kind) store

  pub stop_told : (kind : TrapKind) (l : Layout) (locals : Locals) (store : List Value) → u.layout ≡ l → frame.locals ≡ locals → s.store ≡ store → StopTold kind l locals store
  stop_told kind l locals store el els est = subst (λ l. StopTold kind l locals store) el (subst (λ ls. StopTold kind u.layout ls store) els
      (λ is before_stands. record { turn_is = stop_answers u code s t z frame below stands kind (going u.layout frame.locals 0 (drop before.instr code.instrs.items) old) before_stands.still_to_come tells is; store_is = sym est }))

  abbrev pub EndTold : Ending → Deed → Layout → Locals → List Value → Type 0
  EndTold e d l locals store = going l locals 0 (drop before.instr code.instrs.items) old ≡ gives (act_in e slots) → going l locals 0 (drop at.instr code.instrs.items) slots ≡ gives (act_in e slots)
      → Stands u code before locals old frame
      → TurnAnswers u code s t z frame below (turn_of d) (position_after code d at) (locals_after d locals) slots (store_after d store)

  pub end_told : (e : Ending) (d : Deed) (l : Layout) (locals : Locals) (store : List Value) → at.point < length code.points.items → code.slots ≤ length slots → act_done d slots ≡ act_in e slots
      → u.layout ≡ l → frame.locals ≡ locals → s.store ≡ store → EndTold e d l locals store
  end_told e d l locals store inside long does el els est = subst (λ l. EndTold e d l locals store) el (subst (λ ls. EndTold e d u.layout ls store) els (subst (λ st. EndTold e d u.layout frame.locals st) est
      (λ is here before_stands.
      let doing_is : doing u frame.locals (point_of u frame) frame.work ≡ gives (act_in e slots) = sym before_stands.still_to_come ∙ is in
      let told : (act_of u frame ≡ act_in e slots) × IsDone (act_in e slots) = subst (λ h. Tells (doing u frame.locals (point_of u frame)) (act_of u frame) h) doing_is tells in
      deed_answers u code s t z frame below stands d at slots inside long
      (before_stands.function_is ∙ ap (λ n. (point_in code n).function) (sym same)) (before_stands.point_is ∙ ap (λ n. (point_in code n).point) (sym same)) (told.0 ∙ sym does) (here ∙ sym doing_is))))
