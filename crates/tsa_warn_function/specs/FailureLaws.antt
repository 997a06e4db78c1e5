-- Where rules fail in the program of a unit.
use Rattle.std.specs.Prelude.{◌≡◌, ◌<◌, ℕ, List, length, Some, slice_get}
use Rattle.tsa_tree.specs.units.Syntax.{UnitItem}
use Rattle.tsa_place_model.specs.Ways.{Way}
use Rattle.tsa_core.specs.Programs.{Function, program_of}
use Rattle.tsa_rules.specs.declared.rule.Rule.{Rule}
use Rattle.tsa_rules.specs.Points.{points_of}
use Rattle.tsa_rules.specs.Walks.{Fails}

-- only at points of bodies: walks stay inside them, and a function without a body does nothing at which one could fail
abbrev pub RulesFailAtPointsOfBodies : Type 0
RulesFailAtPointsOfBodies = (items : List UnitItem) (n : ℕ) (f : Function) (point : ℕ) (c : Way) (rule : Rule) → slice_get (program_of items).functions n ≡ Some f
    → Fails (program_of items) f point c rule → point < length (points_of f)
