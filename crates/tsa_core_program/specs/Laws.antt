-- What is found along a row has to be what the core program says.
use Rattle.std.specs.Prelude.{◌≡◌, ℕ, List, map, None, option_map}
use Rattle.tsa_tree.specs.types.Units.{outset, refusal_of_types}
use Rattle.tsa_tree.specs.units.Syntax.{UnitItem}
use Rattle.tsa_types_row.specs.ItemRows.{row_in_unit}
use Rattle.tsa_core_rows.specs.Stretches.{bodies_in}
use Rattle.tsa_core_program.specs.Programs.{body_of, found_in, bodies_found, found_of, points_there, points_meant, body_numbered}
use Rattle.tsa_core_program.specs.Walks.{lists_in}

-- the bodies of a typed unit, in order: each whole, with the locals and the points of the core program
abbrev pub BodiesAreFound : Type 0
BodiesAreFound = (items : List UnitItem) → refusal_of_types items ≡ None → bodies_found (row_in_unit items) (lists_in items) ≡ map found_of (bodies_in (outset items) items)

-- the numbers of a typed unit's points are those of the points of the core program, in order: each is read from its node on
abbrev pub PointsStandThere : Type 0
PointsStandThere = (items : List UnitItem) → refusal_of_types items ≡ None → map points_there (bodies_in (outset items) items) ≡ map points_meant (bodies_in (outset items) items)

-- the body that is found for a function is the function's first one in the unit
abbrev pub BodyOfEachIsFound : Type 0
BodyOfEachIsFound = (items : List UnitItem) (function : ℕ) → refusal_of_types items ≡ None
    → option_map (found_in (row_in_unit items) (lists_in items)) (body_of function (lists_in items).bodies)
    ≡ option_map found_of (body_numbered function (bodies_in (outset items) items))
