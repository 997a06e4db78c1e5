-- The paths of bodies behind the items of a unit, by the numbers of their functions.
use Rattle.std.specs.Prelude.{List, [], ◌∷◌, ◌++◌, map, slice_set, Option, None}
use Rattle.tsa_tree.specs.types.Scopes.{Scope}
use Rattle.tsa_tree.specs.types.Symbols.{number_of}
use Rattle.tsa_tree.specs.types.Units.{behind_item}
use Rattle.tsa_tree.specs.units.Syntax.{UnitItem, body_item}
use Rattle.tsa_place_model.specs.Ways.{Way}
use Rattle.tsa_core.specs.Programs.{Attr, declared_by}
use Rattle.tsa_profile_context.specs.Units.{Unit, attributes_behind, paths_at, points_in}

abbrev pub Tables : Type 0
Tables = List (Option (List Way))

-- a function has none before its body
abbrev pub with_declared : Tables → Scope → UnitItem → Tables
with_declared tables here item = tables ++ map (λ d. None) (declared_by here item)

abbrev pub tables_behind : Unit → (behind : List (List Attr)) → Tables → Scope → UnitItem → Tables
tables_behind u behind tables here (body_item head body close) =
    slice_set (with_declared tables here (body_item head body close)) (number_of here head) (paths_at u behind here head (points_in here head body))
tables_behind u behind tables here item = with_declared tables here item

unfoldable pub tables_of_all : Unit → List (List Attr) → Tables → Scope → List UnitItem → Tables
tables_of_all u known tables here [] = tables
tables_of_all u known tables here (item ∷ rest) =
    tables_of_all u (attributes_behind u known here item) (tables_behind u (attributes_behind u known here item) tables here item) (behind_item here item) rest
