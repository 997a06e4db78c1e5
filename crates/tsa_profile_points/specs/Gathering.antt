-- Paths as they are gathered: each once, and none any more where there was no room for one.
use Rattle.std.specs.Prelude.{List, [], ◌∷◌, Option, Some, None, if◌then◌else◌}
use Rattle.tsa_tree.specs.expressions.Syntax.{Expression}
use Rattle.tsa_tree.specs.types.Scopes.{Scope}
use Rattle.tsa_place_model.specs.Ways.{Way}
use Rattle.tsa_path.specs.PathTables.{is_full, with_path}
use Rattle.tsa_profile_accesses.specs.Accesses.{Access}
use Rattle.tsa_profile_accesses.specs.Arguments.{arguments_of}
use Rattle.tsa_profile_points.specs.Bodies.{Around}
use Rattle.tsa_profile_points.specs.Ways.{called_ways, function_called}

abbrev pub with_way : Option (List Way) → Way → Option (List Way)
with_way None w = None
with_way (Some known) w = if is_full known w then None else Some (with_path known w)

abbrev pub with_one : Option (List Way) → Option Way → Option (List Way)
with_one gathered None = gathered
with_one gathered (Some w) = with_way gathered w

-- all of some that may have none, and those of the guards of accesses
abbrev pub with_all : Option (List Way) → List (Option Way) → Option (List Way)
with_all gathered [] = gathered
with_all gathered (w ∷ rest) = with_all (with_one gathered w) rest

abbrev pub with_guards : Option (List Way) → List Access → Option (List Way)
with_guards gathered [] = gathered
with_guards gathered (a ∷ rest) = with_guards (with_all gathered a.guards) rest

-- the locks of the function that an expression calls
abbrev pub calls_ways : Around → Scope → Option Expression → List (Option Way)
calls_ways a here None = []
calls_ways a here (Some e) = called_ways a.attributes (arguments_of a.stable here e) (function_called here e)

-- and some in order
unfoldable pub with_ways : Option (List Way) → List Way → Option (List Way)
with_ways gathered [] = gathered
with_ways gathered (w ∷ rest) = with_ways (with_way gathered w) rest
