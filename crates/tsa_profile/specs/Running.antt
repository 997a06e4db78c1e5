-- A typed unit in the profile is one that the machine runs.
use Rattle.std.specs.Prelude.{◌≡◌, List, None}
use Rattle.tsa_tree.specs.types.Runnable.{Runnable}
use Rattle.tsa_tree.specs.types.Units.{refusal_of_types}
use Rattle.tsa_tree.specs.units.Syntax.{UnitItem}
use Rattle.tsa_profile_items.specs.Units.{refusal_of_profile}

abbrev pub ProfilesAreRunnable : Type 0
ProfilesAreRunnable = (items : List UnitItem) → refusal_of_types items ≡ None → refusal_of_profile items ≡ None → Runnable items
