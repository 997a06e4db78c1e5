-- The paths of a function, each once: those of its own attributes, argument by argument, and then, point by point, those of the guards of
-- what the point reads and writes, in order of the text, and those that the function which it calls names, as they are here.
use Rattle.std.specs.Prelude.{List, [], ◌∷◌, ◌++◌, map, Option, Some, None, option_and_then, slice_get}
use Rattle.std.specs.List.{flat_map}
use Rattle.tsa_place_model.specs.Ways.{Way}
use Rattle.tsa_core.specs.Bodies.{Body, Point}
use Rattle.tsa_core.specs.Meanings.{Call}
use Rattle.tsa_core.specs.Programs.{Function, Program}
use Rattle.tsa_core.specs.Uses.{Uses}
use Rattle.tsa_path.specs.Substitution.{substituted}
use Rattle.tsa_profile_items.specs.Ways.{present, each_once, unless_many}

-- the locks that a function names, as its caller has them
abbrev pub called_in : List (Option Way) → Option Function → List (Option Way)
called_in ways None = []
called_in ways (Some f) = map (λ a. option_and_then (substituted ways) a.path) f.attrs

abbrev pub called : Program → List (Option Way) → Option Call → List (Option Way)
called p ways None = []
called p ways (Some c) = called_in ways (slice_get p.functions c.function)

abbrev pub point_ways : Program → Uses → Point → List Way
point_ways p u at = present (flat_map (λ a. a.guards) (u.left ++ u.right)) ++ present (called p u.arguments at.call)

abbrev pub points_ways : Program → List Uses → List Point → List Way
points_ways p (u ∷ uses) (at ∷ points) = point_ways p u at ++ points_ways p uses points
points_ways p uses points = []

abbrev pub points_in : Option Body → List Point
points_in None = []
points_in (Some b) = b.points

abbrev pub ways_of : Program → Function → List Way
ways_of p f = present (map (λ a. a.path) f.attrs) ++ points_ways p f.uses (points_in f.body)

unfoldable pub paths_of : Program → Function → List Way
paths_of p f = each_once [] (ways_of p f)

-- the same of a function with a body, where there are no more than it may have
abbrev pub paths_if : Program → Function → Option (List Way)
paths_if p f = option_and_then (λ b. unless_many (paths_of p f)) f.body
