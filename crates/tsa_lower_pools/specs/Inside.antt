-- What stays inside the pools of a unit's code.
use Rattle.std.specs.Prelude.{ℕ, ◌<◌, ◌≤◌}
use Rattle.tsa_lower_pools.specs.declared.code.Case.{Case}
use Rattle.tsa_lower_pools.specs.declared.code.FunctionCode.{FunctionCode}
use Rattle.tsa_lower_pools.specs.declared.code.PointCode.{PointCode}
use Rattle.tsa_lower_pools.specs.declared.code.PoolPart.{PoolPart}

-- a part of a pool lies in it
pub record PartInside (pool : ℕ) (part : PoolPart) : Type 0 where
  pub order : part.from ≤ part.end
  pub inside : part.end ≤ pool

-- a point begins among the instructions, and so does what is done with the answer of its call; it leads to points, and has its cases among
-- all cases
pub record PointInside (instrs points all_cases : ℕ) (c : PointCode) : Type 0 where
  pub entry : c.entry ≤ instrs
  pub behind_call : c.behind_call ≤ instrs
  pub next : c.next < points
  pub yes : c.yes < points
  pub no : c.no < points
  pub rest : c.rest < points
  pub cases : PartInside all_cases c.cases

-- a case leads to a point
abbrev pub CaseInside : (points : ℕ) → Case → Type 0
CaseInside points k = k.to < points

-- a function begins at a point, and has the values of its locals among all values
pub record FunctionInside (points all_zeros : ℕ) (f : FunctionCode) : Type 0 where
  pub first : f.first < points
  pub zeros : PartInside all_zeros f.zeros
