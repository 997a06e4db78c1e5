-- Code that stands for a program: what each point and each function of the program has in its pools.
use Rattle.std.specs.Prelude.{◌≡◌, ℕ, ◌<◌, ◌≤◌, ℤ, true, List, drop, take, length, map, Option, Some, None, is_some}
use Rattle.tsa_core.specs.Bodies.{Action, evaluate, declare, test, Point}
use Rattle.tsa_core.specs.Control.{Chosen, Next, Yes, No, Rest, Outcome, next_point}
use Rattle.tsa_core.specs.Programs.{Program}
use Rattle.tsa_place_model.specs.Items.{zero_of}
use Rattle.tsa_rules.specs.Attributes.{declared_kinds}
use Rattle.tsa_rules.specs.Points.{edges_of, function_at, point_at}
use Rattle.tsa_mean.specs.Frames.{or_here}
use Rattle.tsa_lower_code.specs.PointCodes.{action_code, begin_code, point_height}
use Rattle.tsa_lower_code.specs.declared.instr.Instr.{Instr}
use Rattle.tsa_lower_pools.specs.Pools.{case_in, function_in, point_in, zeros_in}
use Rattle.tsa_lower_pools.specs.declared.code.AnswerUse.{AnswerUse}
use Rattle.tsa_lower_pools.specs.declared.code.AnswerUse.TheVariants as answer
use Rattle.tsa_lower_pools.specs.declared.code.Code.{Code}
use Rattle.tsa_lower_pools.specs.declared.code.PointCode.{PointCode}

-- these instructions stand among others from a number on
abbrev pub StandAt : (instrs : List Instr) → (at : ℕ) → (these : List Instr) → Type 0
StandAt instrs at these = take (length these) (drop at instrs) ≡ these

-- what is done with the answer of a point's call
abbrev pub answer_use_of : Action → AnswerUse
answer_use_of (evaluate x) = answer.Pass
answer_use_of (declare n kind x) = answer.Set n
answer_use_of (test x) = answer.Test
answer_use_of action = answer.Resume

-- the point to which a point leads for an outcome; where no edge does, it stays
abbrev pub point_after : Program → (function point : ℕ) → Outcome → ℕ
point_after u f p o = or_here p (next_point (edges_of (function_at u f)) p o)

-- the point to which a switch leads for a value: that of its case, else what is left
abbrev pub or_rest : Program → (function point : ℕ) → Option ℕ → ℕ
or_rest u f p None = point_after u f p Rest
or_rest u f p (Some q) = q

abbrev pub point_chosen : Program → (function point : ℕ) → ℤ → ℕ
point_chosen u f p z = or_rest u f p (next_point (edges_of (function_at u f)) p (Chosen z))

-- the code at a number is that of a point of a function
pub record IsPoint (code : Code) (at function point : ℕ) : Type 0 where
  pub function_is : (point_in code at).function ≡ function
  pub point_is : (point_in code at).point ≡ point

-- the point of the program that some code is for
abbrev pub point_for : Program → PointCode → Point
point_for u c = point_at (function_at u c.function) c.point

-- A point's code stands from its entry on, and what is done with the answer of its call behind that; each finds its slots; and it leads where
-- the point leads.
pub record PointStands (u : Program) (code : Code) (c : PointCode) : Type 0 where
  pub begins : StandAt code.instrs.items c.entry (begin_code u (point_for u c) (point_for u c).call)
  pub goes_on : StandAt code.instrs.items c.behind_call (action_code u.layout true (point_for u c).action)
  pub slots : point_height (point_for u c) (point_for u c).call ≤ code.slots
  pub answer_use : c.answer_use ≡ answer_use_of (point_for u c).action
  pub next : IsPoint code c.next c.function (point_after u c.function c.point Next)
  pub yes : IsPoint code c.yes c.function (point_after u c.function c.point Yes)
  pub no : IsPoint code c.no c.function (point_after u c.function c.point No)
  pub rest : IsPoint code c.rest c.function (point_after u c.function c.point Rest)
  pub chosen : (z : ℤ) → IsPoint code (case_in code c z) c.function (point_chosen u c.function c.point z)

-- a function with a body begins at its first point, with its declared locals zero or null
pub record FunctionStands (u : Program) (code : Code) (f : ℕ) : Type 0 where
  pub known : f < length code.functions.items
  pub first : IsPoint code (function_in code f).first f 0
  pub zeros : zeros_in code f ≡ map zero_of (declared_kinds (function_at u f).body)

pub record CodeStands (u : Program) (code : Code) : Type 0 where
  pub points : (at : ℕ) → at < length code.points.items → PointStands u code (point_in code at)
  pub functions : (f : ℕ) → is_some (function_at u f).body ≡ true → FunctionStands u code f
