-- Which duties are those of the points of a program.
use Rattle.std.specs.Prelude.{◌≡◌, ℕ, Bool, true, List, [], ◌∷◌, ◌++◌, option_map, is_some}
use Rattle.std.specs.List.{AllZip}
use Rattle.tsa_core.specs.Bodies.{Point}
use Rattle.tsa_core.specs.Programs.{Function, Program}
use Rattle.tsa_rules.specs.Cases.{role_by}
use Rattle.tsa_rules.specs.Conditions.{condition_at}
use Rattle.tsa_rules.specs.Points.{is_a_try, try_variable_at}
use Rattle.tsa_rules.specs.TryVariables.{AreInOrder}
use Rattle.tsa_rules_roles.specs.declared.duty.Duty.{Duty}
use Rattle.tsa_rules_roles.specs.Duties.{Tells, role_with, test_in}
use Rattle.tsa_rules_roles.specs.ValueAnswers.{condition_of}
use Rattle.tsa_rules_roles.specs.Roles.{local_in}

-- a duty is a point's: it has the role of the point in every function, tests what the point tests, and begins the try variable that begins
-- there
pub record IsDuty (u : Program) (x : Point) (d : Duty) : Type 0 where
  pub role : (f : Function) → role_with u f true d ≡ role_by u f (is_a_try u x.call) x.action
  pub condition : option_map condition_of (test_in d) ≡ condition_at x.action
  pub variable : local_in d ≡ try_variable_at u x

-- duties are those of points, which declare locals in order of their numbers, from one on
pub record AreRoles (u : Program) (first : ℕ) (points : List Point) (duties : List Duty) : Type 0 where
  pub in_order : AreInOrder first points
  pub each : AllZip (IsDuty u) points duties

-- What a point does is put behind the others, with whether it begins a local with what a try gives.
abbrev pub Grows : Duty → (is_try : Bool) → (old new : List Duty) → Type 0
Grows d is_try old new = (u : Program) (first : ℕ) (points : List Point) (x : Point) → AreRoles u first points old → AreInOrder first (points ++ x ∷ [])
    → Tells d x.action → is_some (try_variable_at u x) ≡ is_try → AreRoles u first (points ++ x ∷ []) new
