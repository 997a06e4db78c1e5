-- The names of a unit's row.
use Rattle.std.proofs.Common.{◌≡◌, List}
use Rattle.tsa_tree.specs.types.Units.{names_in_unit}
use Rattle.tsa_tree.specs.units.Syntax.{UnitItem}
use Rattle.tsa_types_row.specs.ItemRows.{row_in_unit}
use Rattle.tsa_types_row.specs.Rows.{names_read}
use Rattle.tsa_types_row.proofs.UnitNames.{names_of_rows}

pub names_are : (items : List UnitItem) → names_read (row_in_unit items) ≡ names_in_unit items
names_are = names_of_rows

pub ruleset names = (names_are)
