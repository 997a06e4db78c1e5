-- Paths that nothing claims or tries.
use Rattle.std.specs.Prelude.{◌≡◌, ◌++◌, ◌∷◌, ℕ, [], List, None}
use Rattle.tsa_rules_roles.specs.Roles.{role_in}
use Rattle.tsa_rules.specs.declared.case.Case.{Case}
use Rattle.tsa_rules_view.specs.declared.content.RuleView.{RuleView}
use Rattle.tsa_flow_function.specs.declared.table.Idle.{Idle}

-- what the points of a function are to the rules for such a path
pub record IsIdle (view : RuleView) (cases : ℕ → Case) : Type 0 where
  pub roles : (p : ℕ) → (cases p).role ≡ role_in view.notes.roles p
  pub unclaimed : (p : ℕ) → (cases p).mark.claim ≡ None
  pub untried : (p : ℕ) → (cases p).kept ≡ None

-- it is shared where no point claims or tries the path
abbrev pub shared_with : List Idle → (claims : List ℕ) → Idle → List Idle
shared_with idle [] i = idle ++ i ∷ []
shared_with idle (claim ∷ claims) i = idle
