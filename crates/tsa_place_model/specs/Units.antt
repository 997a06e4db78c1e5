-- The places of a unit (C11 6.2.4p1, 6.7.9): global by global, with the value of each cell at the start.
use Rattle.std.specs.Prelude.{List, [], ◌∷◌, Option, Some, None, Result, Ok, Err, if◌then◌else◌}
use Rattle.tsa_base.specs.declared.token.Span.{Span}
use Rattle.tsa_tree.specs.types.Scopes.{Scope}
use Rattle.tsa_tree.specs.types.Units.{outset}
use Rattle.tsa_tree.specs.units.Syntax.{UnitItem, structure_item, global_item}
use Rattle.tsa_place_model.specs.Calls.{Layout}
use Rattle.tsa_place_model.specs.Parts.{structure_in}
use Rattle.tsa_place_model.specs.Items.{known_global, global_part, behind_data}
use Rattle.tsa_place_model.specs.GlobalPlaces.{with_structure, with_part, passes, no_places}

-- what is known of places behind an item, and the declarator at which there are too many
abbrev pub data_placed : Scope → Layout → UnitItem → Layout
data_placed here l (structure_item tag alias attrs members span) = with_structure (structure_in here members) l
data_placed here l (global_item d) = with_part (known_global here d) (global_part here d) d.init l
data_placed here l item = l

abbrev pub too_many_at : Scope → Layout → UnitItem → Option Span
too_many_at here l (global_item d) = if passes l (global_part here d) then Some d.span else None
too_many_at here l item = None

-- what is known of places behind items, however many there are
unfoldable pub laid_behind : Scope → Layout → List UnitItem → Layout
laid_behind here l [] = l
laid_behind here l (item ∷ rest) = laid_behind (behind_data here item) (data_placed here l item) rest

-- the places of any unit
abbrev pub laid_in : List UnitItem → Layout
laid_in items = laid_behind (outset items) no_places items

-- the places of items behind others, or the first declarator at which there are too many
abbrev pub or_behind : Option Span → Result Layout Span → Result Layout Span
or_behind None found = found
or_behind (Some span) found = Err span

unfoldable pub placed_behind : Scope → Layout → List UnitItem → Result Layout Span
placed_behind here l [] = Ok l
placed_behind here l (item ∷ rest) = or_behind (too_many_at here l item) (placed_behind (behind_data here item) (data_placed here l item) rest)

-- the places of a unit, or the declarator at which there are too many
abbrev pub placed_in : List UnitItem → Result Layout Span
placed_in items = placed_behind (outset items) no_places items
