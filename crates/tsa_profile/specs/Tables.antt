-- Behind the items of a unit the paths of its bodies, by the numbers of their functions, are those of the functions of its core program.
use Rattle.std.specs.Prelude.{◌≡◌, ℕ, List, [], map, None}
use Rattle.tsa_tree.specs.types.FirstFailing.{first_failing}
use Rattle.tsa_tree.specs.types.Units.{outset}
use Rattle.tsa_tree.specs.units.Syntax.{UnitItem}
use Rattle.tsa_core.specs.Programs.{program_of}
use Rattle.tsa_profile_items.specs.Tables.{tables_of_all}
use Rattle.tsa_profile_items.specs.Units.{unit_of}
use Rattle.tsa_profile.specs.Paths.{paths_if}

abbrev pub PathsAreThoseOfTheCore : Type 0
PathsAreThoseOfTheCore = (outside : List ℕ) (items : List UnitItem) → first_failing items ≡ None
    → tables_of_all (unit_of outside items) [] [] (outset items) items ≡ map (paths_if (program_of items)) (program_of items).functions
