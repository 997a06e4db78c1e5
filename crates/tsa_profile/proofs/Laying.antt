-- The places of a unit that has no more than it may have are those of its core program.
use Rattle.std.proofs.Common.{◌≡◌, List, Ok, sym}
use Rattle.tsa_tree.specs.units.Syntax.{UnitItem}
use Rattle.tsa_place_model.specs.Calls.{Layout}
use Rattle.tsa_place_model.specs.Units.{placed_in}
use Rattle.tsa_place_model.proofs.PlacedLaid.{placed_units_are_laid}
use Rattle.tsa_core.specs.Programs.{program_of}

pub laid : (items : List UnitItem) (l : Layout) → placed_in items ≡ Ok l → l ≡ (program_of items).layout
unfolding program_of
laid items l h = sym (placed_units_are_laid items l h)
