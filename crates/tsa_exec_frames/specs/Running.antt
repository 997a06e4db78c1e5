-- What is still to come behind one instruction, and where a run of them halts.
use Rattle.std.specs.Prelude.{◌≡◌, ℕ, ◌+◌, ◌<◌, ◌≤◌, List, length, set, drop, Option, Some, None, Result, Ok, Err}
use Rattle.tsa_base.specs.declared.value.Value.{Value}
use Rattle.tsa_base.specs.declared.value.Value.TheVariants.{Pointer}
use Rattle.tsa_place_model.specs.Calls.{Layout}
use Rattle.tsa_path.specs.Values.{pointed_place}
use Rattle.tsa_sched.specs.declared.event.TrapKind.TheVariants as trap
use Rattle.tsa_mean.specs.Acts.{Act}
use Rattle.tsa_mean.specs.Outs.{TrapKind}
use Rattle.tsa_mean.specs.Working.{Locals}
use Rattle.tsa_lower_going.specs.Going.{Going, stops, asks, gives}
use Rattle.tsa_lower_code.specs.Codes.{act_in, going}
use Rattle.tsa_lower_code.specs.declared.instr.Instr.{Instr}
use Rattle.tsa_lower_pools.specs.Needs.{ending_needs}
use Rattle.tsa_exec_frames.specs.declared.instrs.Step.{Step}
use Rattle.tsa_exec_frames.specs.declared.instrs.Step.TheVariants.{Next, Skip, Halt}
use Rattle.tsa_exec_frames.specs.declared.halts.Halt.TheVariants.{Read, Stop, End}
use Rattle.tsa_exec_frames.specs.declared.halts.Halt as halt
use Rattle.tsa_exec_frames.specs.declared.halts.Halted.{Halted}

-- a pointer to a place, and a trap where there is none
abbrev pub place_or_trap : Option ℕ → TrapKind → Result Value TrapKind
place_or_trap None kind = Err kind
place_or_trap (Some place) kind = Ok (Pointer (Some place))

-- what comes of a value that is put into a slot, and what the slots are then
abbrev pub step_of : Result Value TrapKind → Step
step_of (Ok v) = Next
step_of (Err kind) = Halt (Stop kind)

abbrev pub kept : Result Value TrapKind → (to : ℕ) → List Value → List Value
kept (Ok v) to s = set s to v
kept (Err kind) to s = s

-- what comes of the read of the cell to which a value points
abbrev pub load_at : Option ℕ → (to : ℕ) → Step
load_at None to = Halt (Stop trap.NullPointer)
load_at (Some place) to = Halt (Read place to)

abbrev pub load_of : Value → (to : ℕ) → Step
load_of v to = load_at (pointed_place v) to

-- What is still to come at a halt, with the instructions that follow and the slots.
abbrev pub after_halt : Layout → Locals → halt.Halt → List Instr → List Value → Going Act
after_halt l locals (Read place to) rest s = asks place (λ v. going l locals 0 rest (set s to v))
after_halt l locals (Stop kind) rest s = stops kind
after_halt l locals (End e) rest s = gives (act_in e s)

abbrev pub after_step : Layout → Locals → Step → List Instr → List Value → Going Act
after_step l locals Next rest s = going l locals 0 rest s
after_step l locals (Skip by) rest s = going l locals by rest s
after_step l locals (Halt h) rest s = after_halt l locals h rest s

-- a halt has its slots among so many
abbrev pub HaltFits : (slots : ℕ) → halt.Halt → Type 0
HaltFits n (Read place to) = to < n
HaltFits n (Stop kind) = Unit {0}
HaltFits n (End e) = ending_needs e ≤ n

abbrev pub StepFits : (slots : ℕ) → Step → Type 0
StepFits n (Halt h) = HaltFits n h
StepFits n step = Unit {0}

-- an instruction at which code halts leaves the slots
abbrev pub KeepsSlots : Step → (old new : List Value) → Type 0
KeepsSlots (Halt h) old new = new ≡ old
KeepsSlots step old new = Unit {0}

-- a read stands before the end of the instructions, and code may halt behind the last one, too
abbrev pub IsAmong : (instrs : ℕ) → halt.Halt → (at : ℕ) → Type 0
IsAmong n (Read place to) at = at < n
IsAmong n h at = at ≤ n

-- Where code halts, nothing has changed of what is still to come, and what comes first there is known.
pub record HaltsAs (l : Layout) (locals : Locals) (instrs : List Instr) (from : ℕ) (old : List Value) (halted : Halted) (new : List Value) : Type 0 where
  pub goes : going l locals 0 (drop from instrs) old ≡ after_halt l locals halted.halt (drop (halted.instr + 1) instrs) new
  pub same : going l locals 0 (drop halted.instr instrs) new ≡ going l locals 0 (drop from instrs) old
  pub among : IsAmong (length instrs) halted.halt halted.instr
  pub fits : HaltFits (length new) halted.halt
