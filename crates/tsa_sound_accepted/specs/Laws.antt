-- Units in which no rule fails are sound.
use Rattle.std.specs.Prelude.{List}
use Rattle.tsa_tree.specs.units.Syntax.{UnitItem}
use Rattle.tsa_place_model.specs.Calls.{Layout}
use Rattle.tsa_core.specs.Programs.{program_of}
use Rattle.tsa_rules.specs.Warnings.{HasNoWarnings}
use Rattle.tsa_mean.specs.Sound.{Sound}
use Rattle.tsa_sound_accepted.specs.terms.Units.{IsInProfile}

abbrev pub UnitsWithoutWarningsAreSound : Type 0
UnitsWithoutWarningsAreSound = (items : List UnitItem) (l : Layout) → IsInProfile items l → HasNoWarnings (program_of items) → Sound items
