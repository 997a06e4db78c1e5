-- What the pools of a unit's code have at a number.
use Rattle.std.specs.Prelude.{ℕ, ◌-◌, ℤ, int_le, ◌&&◌, List, [], ◌∷◌, drop, take, get_or, if◌then◌else◌}
use Rattle.tsa_base.specs.declared.value.Value.{Value}
use Rattle.tsa_lower_pools.specs.declared.code.AnswerUse.TheVariants.{Resume}
use Rattle.tsa_lower_pools.specs.declared.code.Case.{Case}
use Rattle.tsa_lower_pools.specs.declared.code.Code.{Code}
use Rattle.tsa_lower_pools.specs.declared.code.FunctionCode.{FunctionCode}
use Rattle.tsa_lower_pools.specs.declared.code.PointCode.{PointCode}
use Rattle.tsa_lower_pools.specs.declared.code.PoolPart.{PoolPart}

abbrev pub no_part : PoolPart
no_part = record { from = 0; end = 0 }

abbrev pub no_point : PointCode
no_point = record {
  function = 0;
  point = 0;
  entry = 0;
  behind_call = 0;
  answer_use = Resume;
  next = 0;
  yes = 0;
  no = 0;
  rest = 0;
  cases = no_part;
}

abbrev pub no_function : FunctionCode
no_function = record { first = 0; zeros = no_part }

abbrev pub point_in : Code → (at : ℕ) → PointCode
point_in code at = get_or code.points.items at no_point

abbrev pub function_in : Code → (function : ℕ) → FunctionCode
function_in code f = get_or code.functions.items f no_function

-- a part of a pool
abbrev pub part_of : {A : Type 0} → List A → PoolPart → List A
part_of pool part = take (part.end - part.from) (drop part.from pool)

-- the values with which the locals begin that a function declares
abbrev pub zeros_in : Code → (function : ℕ) → List Value
zeros_in code f = part_of code.zeros.items (function_in code f).zeros

-- the point to which the first case of a value leads, else another
abbrev pub first_case : ℤ → List Case → (rest : ℕ) → ℕ
first_case z [] rest = rest
first_case z (k ∷ ks) rest = if (int_le k.value z && int_le z k.value) then k.to else first_case z ks rest

-- the point to which a switch leads for a value: that of its case, else what is left
abbrev pub case_in : Code → PointCode → ℤ → ℕ
case_in code c z = first_case z (part_of code.cases.items c.cases) c.rest
