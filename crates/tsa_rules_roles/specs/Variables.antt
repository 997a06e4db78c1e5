-- Which try variable each local is.
use Rattle.std.specs.Prelude.{◌≡◌, ◌<◌, ℕ, ◌^◌, List, length, take, Option, None, option_map, slice_index_or}
use Rattle.tsa_rules_roles.specs.declared.duty.Duty.{Duty}
use Rattle.tsa_rules_roles.specs.declared.variables.Variable.{Variable}
use Rattle.tsa_rules_roles.specs.Roles.{declared_in, tries_in}

-- the try variable that begins behind some points, and the one that a local is
abbrev pub variable_after : List Duty → Variable
variable_after duties = record { number = tries_in duties; begin = length duties }

abbrev pub variable_at : List Duty → (point : ℕ) → Variable
variable_at duties p = variable_after (take p duties)

abbrev pub variable_in : List Duty → (local : ℕ) → Option Variable
variable_in duties local = option_map (variable_at duties) (declared_in duties local)

-- what is kept beside the duties: each try variable at its local, and how many there are
pub record AreKept (duties : List Duty) (variables : List (Option Variable)) (tries : ℕ) : Type 0 where
  pub each : (local : ℕ) → slice_index_or variables local None ≡ variable_in duties local
  pub count : tries ≡ tries_in duties
  pub size : length duties < 2 ^ 32
