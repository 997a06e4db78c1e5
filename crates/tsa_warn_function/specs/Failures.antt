-- All rules that fail in a function, by its points, the rules and the numbers of its paths.
use Rattle.std.specs.Prelude.{◌≡◌, ◌<◌, List, AllPairs, Contains, length, Some, slice_get}
use Rattle.tsa_place_model.specs.Ways.{Way}
use Rattle.tsa_core.specs.Programs.{Function, Program}
use Rattle.tsa_rules.specs.Points.{points_of}
use Rattle.tsa_rules.specs.Walks.{Fails}
use Rattle.tsa_warn_function.specs.declared.failure.RuleFailure.{RuleFailure}

-- A rule fails at a point of a function of a program for the path of a number among some.
pub record FailsThere (u : Program) (f : Function) (paths : List Way) (x : RuleFailure) : Type 0 where
  pub within : x.point < length (points_of f)
  pub path : Way
  pub is_there : slice_get paths x.cap ≡ Some path
  pub fails : Fails u f x.point path x.rule

-- A list has all rules that fail in the function for these paths and nothing else, each point, rule and path once.
pub record AreFailures (u : Program) (f : Function) (paths : List Way) (found : List RuleFailure) : Type 0 where
  pub told : (x : RuleFailure) → Contains found x → FailsThere u f paths x
  pub all : (x : RuleFailure) → FailsThere u f paths x → Contains found x
  pub once : AllPairs (λ x y. x ≡ y → ⊥) found
