-- The paths of a function, each once: those of its own attributes, argument by argument, and then, point by point, those of the guards of
-- what the point reads and writes, in order of the text, and those that the function which it calls names, as they are here.
use Rattle.std.specs.Prelude.{ℕ, Bool, nat_lt, List, [], ◌∷◌, ◌++◌, length, map, Option, Some, None, option_map, option_and_then}
use Rattle.std.specs.Prelude.{if◌then◌else◌}
use Rattle.std.specs.List.{flat_map}
use Rattle.tsa_tree.specs.declarations.Syntax.{Initialiser, value}
use Rattle.tsa_tree.specs.expressions.Syntax.{Expression}
use Rattle.tsa_tree.specs.points.Syntax.{Deed, declares, evaluates, assigns, tests, returns}
use Rattle.tsa_tree.specs.types.Scopes.{Scope}
use Rattle.tsa_place_model.specs.Ways.{Way}
use Rattle.tsa_place_model.specs.Calls.{Layout}
use Rattle.tsa_core.specs.Bodies.{Known}
use Rattle.tsa_core.specs.Meanings.{call_in}
use Rattle.tsa_core.specs.Programs.{Attr}
use Rattle.tsa_core.specs.Uses.{Uses, uses_of}
use Rattle.tsa_path.specs.PathTables.{path_limit, with_path}
use Rattle.tsa_path.specs.Substitution.{substituted}
use Rattle.tsa_core_points.specs.CoreLaws.{known_of}
use Rattle.tsa_core_points.specs.Points.{PlacedPoint}
use Rattle.tsa_profile_accesses.specs.Expressions.{attributes_at}
use Rattle.tsa_profile_points.specs.Bodies.{Around}

abbrev pub present : {A : Type 0} → List (Option A) → List A
present [] = []
present (None ∷ rest) = present rest
present (Some x ∷ rest) = x ∷ present rest

abbrev pub each_once : List Way → List Way → List Way
each_once known [] = known
each_once known (w ∷ rest) = each_once (with_path known w) rest

-- the expression whose call is made at a point, and the function that is called there, by its number
abbrev pub init_value : Option Initialiser → Option Expression
init_value (Some (value e)) = Some e
init_value init = None

abbrev pub calling : Deed → Option Expression
calling (declares d) = init_value d.init
calling (evaluates e) = Some e
calling (assigns left o right) = Some right
calling (tests e) = e
calling (returns e) = e
calling deed = None

abbrev pub function_called : Scope → Expression → Option ℕ
function_called here e = option_map (λ c. c.function) (call_in here e)

abbrev pub called_at : Known → Option ℕ
called_at k = option_and_then (function_called k.here) (calling k.deed)

-- the locks that attributes name, and those of a function that is called, as its caller has them
abbrev pub named_ways : List Attr → List (Option Way)
named_ways attributes = map (λ a. a.path) attributes

abbrev pub substituted_ways : List (Option Way) → List Attr → List (Option Way)
substituted_ways ways attributes = map (λ a. option_and_then (substituted ways) a.path) attributes

abbrev pub called_ways : List (List Attr) → List (Option Way) → Option ℕ → List (Option Way)
called_ways attributes ways None = []
called_ways attributes ways (Some n) = substituted_ways ways (attributes_at attributes n)

-- the paths of a point, by what it uses and which function it calls
abbrev pub used_ways : List (List Attr) → Uses → Option ℕ → List Way
used_ways attributes u function = present (flat_map (λ a. a.guards) (u.left ++ u.right)) ++ present (called_ways attributes u.arguments function)

abbrev pub ways_at : Layout → List (List Attr) → (ℕ → Bool) → Known → List Way
ways_at l attributes stable k = used_ways attributes (uses_of l stable k) (called_at k)

unfoldable pub points_ways : Around → List PlacedPoint → List Way
points_ways a [] = []
points_ways a (p ∷ rest) = ways_at a.layout a.attributes a.stable (known_of p) ++ points_ways a rest

-- those of a function with some attributes of its own
abbrev pub function_ways : Around → List Attr → List PlacedPoint → List Way
function_ways a attributes points = present (named_ways attributes) ++ points_ways a points

-- each once, where there are no more than a function may have
abbrev pub unless_many : List Way → Option (List Way)
unless_many ways = if nat_lt path_limit (length ways) then None else Some ways

abbrev pub function_paths : Around → List Attr → List PlacedPoint → Option (List Way)
function_paths a attributes points = unless_many (each_once [] (function_ways a attributes points))
