-- For which paths rules can fail in a function.
use Rattle.std.specs.Prelude.{◌≡◌, ℕ, length, Some, slice_get}
use Rattle.tsa_place_model.specs.Ways.{Way}
use Rattle.tsa_core.specs.Programs.{Function, Program}
use Rattle.tsa_warn_function.specs.Paths.{paths_of}
use Rattle.tsa_rules.specs.declared.rule.Rule.{Rule}
use Rattle.tsa_rules.specs.Points.{points_of}
use Rattle.tsa_rules.specs.Walks.{Fails}

-- for those of the function alone, where what it uses stands beside its points
abbrev pub RulesFailForPathsOfFunctions : Type 0
RulesFailForPathsOfFunctions = (u : Program) (f : Function) → length f.uses ≡ length (points_of f) → (point : ℕ) (c : Way) (rule : Rule) → Fails u f point c rule
    → (cap : ℕ) × (slice_get (paths_of u f) cap ≡ Some c)
