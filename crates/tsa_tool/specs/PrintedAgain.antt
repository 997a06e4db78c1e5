-- What is printed is printed again.
use Rattle.std.specs.Prelude.{ℕ, ◌≡◌, List, Ok}
use Rattle.tsa_tree.specs.units.Syntax.{UnitItem}
use Rattle.tsa_print.specs.UnitBases.{HasPlainBases}
use Rattle.tsa_print.specs.UnitPieces.{canonical_unit}
use Rattle.tsa_tool.specs.Checks.{tree_in}

-- where `print` takes what it wrote for a unit in which no `.` has a number as its base, it writes the same bytes
abbrev pub PrintedIsPrintedAgain : Type 0
PrintedIsPrintedAgain = (text : List ℕ) (tree again : List UnitItem) → tree_in text ≡ Ok tree → HasPlainBases tree →
    tree_in (canonical_unit tree) ≡ Ok again → canonical_unit again ≡ canonical_unit tree
