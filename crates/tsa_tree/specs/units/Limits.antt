-- How many functions a unit may have, and how many points a body. What passes a limit is told at a function's name.
use Rattle.std.specs.Prelude.{◌∷◌, List, [], length, nat_lt, Some, None, slice_get, if◌then◌else◌}
use Rattle.std.specs.declared.option.Option.{Option}
use Rattle.tsa_tree.specs.expressions.Syntax.{Identifier}
use Rattle.tsa_tree.specs.points.Syntax.{points_of_body}
use Rattle.tsa_tree.specs.units.Syntax.{UnitItem, function_item, body_item}

-- the names of the functions, each prototype's and each body's
abbrev pub function_names : List UnitItem → List Identifier
function_names [] = []
function_names (function_item head ∷ items) = head.name ∷ function_names items
function_names (body_item head body close ∷ items) = head.name ∷ function_names items
function_names (other ∷ items) = function_names items

-- the name of the first function that is one too many
abbrev pub past_functions : List UnitItem → Option Identifier
past_functions items = slice_get (function_names items) 1024

-- the name of the first function whose body has too many points, its end included
abbrev pub past_points : List UnitItem → Option Identifier
past_points [] = None
past_points (body_item head body close ∷ items) =
    if nat_lt 4096 (length (points_of_body body close)) then Some head.name else past_points items
past_points (other ∷ items) = past_points items
