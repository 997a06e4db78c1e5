-- Code that stands for a program goes as its points.
use Rattle.std.specs.Prelude.{◌≡◌, ℕ, ◌<◌, ◌≤◌, List, drop, length, None}
use Rattle.tsa_base.specs.declared.value.Value.{Value}
use Rattle.tsa_core.specs.Programs.{Program}
use Rattle.tsa_mean.specs.Frames.{left_of, right_of, work_at}
use Rattle.tsa_mean.specs.States.{working}
use Rattle.tsa_mean.specs.Working.{Locals, with_answer}
use Rattle.tsa_lower_going.specs.Doing.{doing}
use Rattle.tsa_lower_code.specs.Codes.{going, slot}
use Rattle.tsa_lower_pools.specs.Pools.{point_in}
use Rattle.tsa_lower_pools.specs.Units.{CodeStands, point_for}
use Rattle.tsa_lower_pools.specs.declared.code.Code.{Code}
use Rattle.tsa_lower_pools.specs.declared.code.PointCode.{PointCode}

-- What is still to come of a point's code is what is still to come of the point: from its entry on, and behind its call with the answer of that
-- in slot 0.
pub record PointGoes (u : Program) (code : Code) (c : PointCode) : Type 0 where
  pub begins : (locals : Locals) (s : List Value) → code.slots ≤ length s
      → going u.layout locals 0 (drop c.entry code.instrs.items) s ≡ doing u locals (point_for u c) (work_at u c.function c.point)
  pub goes_on : (locals : Locals) (s : List Value) (v : Value) → code.slots ≤ length s → slot s 0 ≡ v
      → going u.layout locals 0 (drop c.behind_call code.instrs.items) s
      ≡ doing u locals (point_for u c) (working (with_answer v (right_of (point_for u c).action)) (left_of (point_for u c).action) None)

abbrev pub CodeGoesAsTheProgram : Type 0
CodeGoesAsTheProgram = (u : Program) (code : Code) → CodeStands u code → (at : ℕ) → at < length code.points.items → PointGoes u code (point_in code at)
