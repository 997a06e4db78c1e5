-- The guards of a member that was looked up in a struct.
use Rattle.std.specs.Prelude.{ℕ, List, [], Option, Some, None}
use Rattle.tsa_tree.specs.declared.kind.ThingType.{ThingType}
use Rattle.tsa_place_model.specs.Ways.{Way}
use Rattle.tsa_place_model.specs.Calls.{Layout}
use Rattle.tsa_core.specs.Uses.{member_guards}

abbrev pub found_guards : Layout → (owner : Option Way) → (struct : Option ℕ) → Option (ℕ × ThingType) → List (Option Way)
found_guards l o None m = []
found_guards l o (Some struct) m = member_guards l o struct m
