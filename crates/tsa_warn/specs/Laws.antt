-- Which rules are told in the bodies of a unit: all that fail anywhere in its program.
use Rattle.std.specs.Prelude.{◌≡◌, ℕ, List, Contains, None, Some, slice_get}
use Rattle.tsa_tree.specs.types.FirstFailing.{first_failing}
use Rattle.tsa_tree.specs.units.Syntax.{UnitItem}
use Rattle.tsa_core.specs.Programs.{Function, program_of}
use Rattle.tsa_rules.specs.Warnings.{FailsIn, HasNoWarnings, Warning}
use Rattle.tsa_warn_function.specs.Failures.{FailsThere}
use Rattle.tsa_warn_bodies.specs.Bodies.{BodyText, bodies_of}
use Rattle.tsa_warn_function.specs.Paths.{paths_of}
use Rattle.tsa_warn.specs.WarningLines.{IsWarned, Warned, no_lines}

-- A rule that fails is told in the body of its function, for a path of that by its number.
pub record IsToldIn (items : List UnitItem) (w : Warning) : Type 0 where
  pub body : BodyText
  pub is_one : Contains (bodies_of items) body
  pub number : body.number ≡ w.function
  pub function : Function
  pub is_there : slice_get (program_of items).functions body.number ≡ Some function
  pub cap : ℕ
  pub is_path : slice_get (paths_of (program_of items) function) cap ≡ Some w.path
  pub fails : FailsThere (program_of items) function (paths_of (program_of items) function) (record { point = w.point; rule = w.rule; cap = cap })

-- In a typed unit every rule that fails on some walk, at any point of any function and for any path, is told.
abbrev pub RulesThatFailAreTold : Type 0
RulesThatFailAreTold = (items : List UnitItem) (w : Warning) → first_failing items ≡ None → FailsIn (program_of items) w → IsToldIn items w

-- So where no line is told, none fails.
abbrev pub UnitsWithoutLinesHaveNoWarnings : Type 0
UnitsWithoutLinesHaveNoWarnings = (bytes : List ℕ) (items : List UnitItem) (w : Warned) → first_failing items ≡ None → IsWarned bytes items w → w.count ≡ 0
    → HasNoWarnings (program_of items)

-- And where no rule fails, no line is told.
abbrev pub UnitsWithoutWarningsHaveNoLines : Type 0
UnitsWithoutWarningsHaveNoLines = (bytes : List ℕ) (items : List UnitItem) (w : Warned) → HasNoWarnings (program_of items) → IsWarned bytes items w → w ≡ no_lines
