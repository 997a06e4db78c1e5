-- What the duties of the points of a function tell of it.
use Rattle.std.specs.Prelude.{◌≡◌, ◌<◌, ℕ, List, length, Some, None}
use Rattle.tsa_place_model.specs.Ways.{Way}
use Rattle.tsa_core.specs.Programs.{Function, Program}
use Rattle.tsa_rules.specs.Cases.{kept_of, role_of}
use Rattle.tsa_rules.specs.Marks.{mark_of}
use Rattle.tsa_rules.specs.Points.{points_of, try_variables}
use Rattle.tsa_rules_roles.specs.declared.duty.Duty.{Duty}
use Rattle.tsa_rules_roles.specs.Roles.{begin_in, role_in, tries_in}
use Rattle.tsa_rules_roles.specs.ProgramDuties.{AreRoles}

pub record AreRolesOf (u : Program) (f : Function) (duties : List Duty) : Type 0 where
  -- there are as many as the function has points, and as many of them begin a try variable
  pub points : length duties ≡ length (points_of f)
  pub count : tries_in duties ≡ length (try_variables u f)
  -- each point has the role that the rules have of it
  pub roles : (p : ℕ) → role_in duties p ≡ role_of u f p
  -- what a test of a try variable finds of a path is the try of the path at the point where the variable begins; other points find none
  pub begins : (p q : ℕ) → begin_in duties p ≡ Some q → q < length (points_of f)
  pub kept : (p q : ℕ) (c : Way) → begin_in duties p ≡ Some q → kept_of u f p c ≡ (mark_of u f q c).tried
  pub none : (p : ℕ) (c : Way) → begin_in duties p ≡ None → kept_of u f p c ≡ None

-- wherever the locals of a function are declared in order
abbrev pub RolesAreOfTheProgram : Type 0
RolesAreOfTheProgram = (u : Program) (f : Function) (first : ℕ) (duties : List Duty) → AreRoles u first (points_of f) duties → AreRolesOf u f duties
