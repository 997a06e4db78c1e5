-- The places of any unit are laid out as it declares them.
use Rattle.std.specs.Prelude.{List}
use Rattle.tsa_tree.specs.units.Syntax.{UnitItem}
use Rattle.tsa_place_model.specs.Units.{laid_in}
use Rattle.tsa_sound.specs.LaidOut.{LaidOut}

abbrev pub PlacesAreLaidOut : Type 0
PlacesAreLaidOut = (items : List UnitItem) → LaidOut (laid_in items)
