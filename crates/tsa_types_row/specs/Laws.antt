-- What rows have to be.
use Rattle.std.specs.Prelude.{◌≡◌, List}
use Rattle.tsa_tree.specs.types.Units.{names_in_unit}
use Rattle.tsa_tree.specs.units.Syntax.{UnitItem}
use Rattle.tsa_types_row.specs.ItemRows.{row_in_unit}
use Rattle.tsa_types_row.specs.Rows.{names_read}

-- the row of a unit bears the names of the unit in their order, each with what it means
abbrev pub NamesOfRows : Type 0
NamesOfRows = (items : List UnitItem) → names_read (row_in_unit items) ≡ names_in_unit items
