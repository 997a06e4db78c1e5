-- What a turn of a frame in code leaves, and what is told of it.
use Rattle.std.specs.Prelude.{◌≡◌, ℕ, ℤ, ◌≤◌, true, false, List, length, drop, slice_index_or, Option, None, Some, if◌then◌else◌}
use Rattle.tsa_base.specs.declared.value.Value.{Value}
use Rattle.tsa_base.specs.declared.value.Value.TheVariants.{Pointer}
use Rattle.tsa_place_model.specs.Calls.{Layout}
use Rattle.tsa_core.specs.Programs.{Program}
use Rattle.tsa_sched.specs.declared.event.EventKind.{EventKind}
use Rattle.tsa_sched.specs.declared.event.EventKind.TheVariants as event
use Rattle.tsa_mean.specs.Acts.{Act, act_of, to_read, to_write}
use Rattle.tsa_mean.specs.States.{Frame, State, running, trapped, with_thread}
use Rattle.tsa_mean.specs.Steps.{Turn, perform}
use Rattle.tsa_mean.specs.Working.{Locals}
use Rattle.tsa_lower_going.specs.Going.{Going, stops, asks, gives}
use Rattle.tsa_lower_code.specs.Codes.{act_in, going}
use Rattle.tsa_lower_pools.specs.Needs.{ending_needs}
use Rattle.tsa_lower_pools.specs.Pools.{point_in}
use Rattle.tsa_lower_pools.specs.declared.code.Code.{Code}
use Rattle.tsa_exec_frames.specs.Deeds.{act_requested, RequestFits}
use Rattle.tsa_exec_frames.specs.Frames.{beginning, Stands}
use Rattle.tsa_exec_frames.specs.declared.deed.Deed.{Deed}
use Rattle.tsa_exec_frames.specs.declared.deed.Deed.TheVariants as deed
use Rattle.tsa_exec_frames.specs.declared.deed.Request.{Request}
use Rattle.tsa_exec_frames.specs.declared.frame.Position.{Position}
use Rattle.tsa_exec_frames.specs.declared.turns.Arrival.{Arrival}
use Rattle.tsa_exec_frames.specs.declared.turns.Arrival.TheVariants as arrival
use Rattle.tsa_exec_frames.specs.declared.turns.FrameTurn.{FrameTurn}
use Rattle.tsa_exec_frames.specs.declared.turns.FrameTurn.TheVariants.{Event, Trap, Request as Asks}
use Rattle.tsa_exec_frames.specs.declared.turns.Touch.{Touch}

-- a read comes first of what is still to come, and with its value the rest does
pub record Reads (place : ℕ) (value : Value) (g rest : Going Act) : Type 0 where
  pub left : Value → Going Act
  pub first : g ≡ asks place left
  pub then_on : left value ≡ rest

-- where code arrives from what was still to come
abbrev pub ArrivesFrom : Layout → Locals → Code → (store : List Value) → Arrival → Position → List Value → Going Act → Type 0
ArrivesFrom l locals code store (arrival.Read place value) at slots g =
    (value ≡ slice_index_or store place (Pointer None)) × Reads place value g (going l locals 0 (drop at.instr code.instrs.items) slots)
ArrivesFrom l locals code store (arrival.Stop kind) at slots g = g ≡ stops kind
ArrivesFrom l locals code store (arrival.End e) at slots g =
    (g ≡ gives (act_in e slots)) × (going l locals 0 (drop at.instr code.instrs.items) slots ≡ gives (act_in e slots)) × (ending_needs e ≤ length slots)

-- what is told of a deed, and to which point it leads
abbrev pub turn_of : Deed → FrameTurn
turn_of deed.Step = Event event.Stepped
turn_of (deed.Set n v) = Event event.Stepped
turn_of (deed.Write place v) = Event (event.Write place v)
turn_of (deed.Branch b) = Event (event.Branched b)
turn_of (deed.Request r) = Asks r

abbrev pub position_after : Code → Deed → Position → Position
position_after code deed.Step at = beginning code (point_in code at.point).next
position_after code (deed.Set n v) at = beginning code (point_in code at.point).next
position_after code (deed.Write place v) at = beginning code (point_in code at.point).next
position_after code (deed.Branch b) at = beginning code (if b then (point_in code at.point).yes else (point_in code at.point).no)
position_after code (deed.Request r) at = at

abbrev pub TurnFits : (slots : ℕ) → FrameTurn → Type 0
TurnFits n (Asks r) = RequestFits n r
TurnFits n turn = Unit {0}

abbrev pub with_store : State → List Value → State
with_store s store = record { store = store; locks = s.locks; threads = s.threads }

-- The machine's turn of a frame that goes on leaves another in its place, for which the frame in code stands, with the arguments and the holds
-- of its call.
pub record GoesOn (u : Program) (code : Code) (s : State) (t : ℕ) (z : ℤ) (frame : Frame) (below : List Frame) (kind : EventKind) (at : Position) (locals : Locals) (slots store : List Value) : Type 0 where
  pub frame_after : Frame
  pub stands : Stands u code at locals slots frame_after
  pub args_are : frame_after.args ≡ frame.args
  pub holds_are : frame_after.at_call ≡ frame.at_call
  pub turn : perform u s t frame below z (act_of u frame) ≡ (with_thread (with_store s store) t (running frame_after below), kind)

-- a trap stops the thread, and leaves the store
pub record Stops (u : Program) (s : State) (t : ℕ) (z : ℤ) (frame : Frame) (below : List Frame) (turn : Turn) (store : List Value) : Type 0 where
  pub turn_is : perform u s t frame below z (act_of u frame) ≡ turn
  pub store_is : store ≡ s.store

-- what is asked of other parts of the machine is the act of the frame, which is as it was
pub record IsAsked (u : Program) (code : Code) (s : State) (frame : Frame) (r : Request) (at : Position) (locals : Locals) (slots store : List Value) : Type 0 where
  pub act : act_of u frame ≡ act_requested r slots
  pub stands : Stands u code at locals slots frame
  pub store_is : store ≡ s.store

-- What a turn tells and leaves is what the machine's turn tells and leaves.
abbrev pub TurnAnswers : Program → Code → State → (thread : ℕ) → ℤ → Frame → List Frame → FrameTurn → Position → Locals → (slots store : List Value) → Type 0
TurnAnswers u code s t z frame below (Event kind) at locals slots store = GoesOn u code s t z frame below kind at locals slots store
TurnAnswers u code s t z frame below (Trap kind) at locals slots store =
    Stops u s t z frame below (with_thread s t (trapped frame below), event.Trap kind) store
TurnAnswers u code s t z frame below (Asks r) at locals slots store = IsAsked u code s frame r at locals slots store

-- the cell that an act reads or writes
abbrev pub touched : Act → Option Touch
touched (to_read place left) = Some (record { place = place; is_write = false })
touched (to_write place v) = Some (record { place = place; is_write = true })
touched act = None
