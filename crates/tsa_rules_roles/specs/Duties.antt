-- What a point does for the rules, as code tells it, beside the role that the rules have of the point's action.
use Rattle.std.specs.Prelude.{◌≡◌, Bool, Option, Some, None, option_map}
use Rattle.tsa_core.specs.Bodies.{Action}
use Rattle.tsa_core.specs.Programs.{Function, Program}
use Rattle.tsa_rules.specs.declared.case.Role.{Role}
use Rattle.tsa_rules.specs.declared.case.Role.TheVariants as role
use Rattle.tsa_rules.specs.Cases.{begins_by, role_by, tests_by}
use Rattle.tsa_rules.specs.Conditions.{condition_at}
use Rattle.tsa_rules.specs.Points.{try_number}
use Rattle.tsa_rules_roles.specs.declared.duty.Duty.{Duty}
use Rattle.tsa_rules_roles.specs.declared.duty.Duty.TheVariants as duty
use Rattle.tsa_rules_roles.specs.declared.answers.Told.{Told}
use Rattle.tsa_rules_roles.specs.ValueAnswers.{condition_of}

-- the role of what a point does in a function of a program, where its call is a try or not
abbrev pub role_with : Program → Function → (is_a_try : Bool) → Duty → Role
role_with u f is_try (duty.Declares n) = begins_by is_try (try_number u f n)
role_with u f is_try (duty.Tests t) = tests_by u f (Some (condition_of t))
role_with u f is_try (duty.Leaves answer) = role.Leaves answer
role_with u f is_try duty.Passes = role.Passes

-- the test that it is
abbrev pub test_in : Duty → Option Told
test_in (duty.Tests t) = Some t
test_in _ = None

-- it has the role of the action in every function, and is a test of the condition that the action tests
pub record Tells (d : Duty) (a : Action) : Type 0 where
  pub role : (u : Program) (f : Function) (is_try : Bool) → role_with u f is_try d ≡ role_by u f is_try a
  pub condition : option_map condition_of (test_in d) ≡ condition_at a
