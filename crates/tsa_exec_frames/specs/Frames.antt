-- Frames in code, and the frames of the machine for which they stand.
use Rattle.std.specs.Prelude.{◌≡◌, ℕ, ◌<◌, ◌≤◌, List, length, drop}
use Rattle.tsa_base.specs.declared.value.Value.{Value}
use Rattle.tsa_core.specs.Programs.{Program}
use Rattle.tsa_mean.specs.Acts.{point_of}
use Rattle.tsa_mean.specs.States.{Frame}
use Rattle.tsa_mean.specs.Working.{Locals}
use Rattle.tsa_lower_going.specs.Doing.{doing}
use Rattle.tsa_lower_code.specs.Codes.{going}
use Rattle.tsa_lower_pools.specs.Pools.{point_in}
use Rattle.tsa_lower_pools.specs.declared.code.Code.{Code}
use Rattle.tsa_exec_frames.specs.declared.frame.Position.{Position}

-- at a point of the unit, and among its instructions
pub record IsInside (code : Code) (at : Position) : Type 0 where
  pub point : at.point < length code.points.items
  pub instr : at.instr ≤ length code.instrs.items

abbrev pub beginning : Code → (point : ℕ) → Position
beginning code point = record { point = point; instr = (point_in code point).entry }

-- A frame in code stands for a frame of the machine: at the same point with the same locals, and the same is still to come.
pub record Stands (u : Program) (code : Code) (at : Position) (locals : Locals) (slots : List Value) (frame : Frame) : Type 0 where
  pub function_is : frame.function ≡ (point_in code at.point).function
  pub point_is : frame.point ≡ (point_in code at.point).point
  pub locals_are : frame.locals ≡ locals
  pub still_to_come : going u.layout locals 0 (drop at.instr code.instrs.items) slots ≡ doing u locals (point_of u frame) frame.work

-- A frame in code is at the point of a frame of the machine with the same locals, whatever is still to come there: it waits for what its call
-- gives back, or for what is done with a value.
pub record Pauses (code : Code) (at : Position) (locals : Locals) (frame : Frame) : Type 0 where
  pub function_is : frame.function ≡ (point_in code at.point).function
  pub point_is : frame.point ≡ (point_in code at.point).point
  pub locals_are : frame.locals ≡ locals
