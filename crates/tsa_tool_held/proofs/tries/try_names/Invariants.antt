use Rattle.std.proofs.Common.{◌≡◌, ◌++◌, List, drop, map}
use Rattle.tsa_core.specs.Programs.{Function, Program}
use Rattle.tsa_tree.specs.statements.Shapes.{point_shape}
use Rattle.tsa_warn.specs.Views.{IsViewOf}
use Rattle.tsa_place_model.specs.Ways.{Way}
use Rattle.tsa_tool_held.specs.Held.{try_names_from}
use Rattle.tsa_tool_held.proofs.tries.try_names.Given as goal

-- the names so far with those at the points that are left are all of them
abbrev pub invariant-each : goal.invariant-each
invariant-each l = (u : Program) (f : Function) (paths : List Way) → IsViewOf u f paths l.body.flow.view
    → map (λ name. name.now) l.names.items ++ try_names_from u f l.number (map point_shape (drop l.number l.body.head.now.points.now)) ≡ try_names_from u f 0 (map point_shape l.body.head.now.points.now)
