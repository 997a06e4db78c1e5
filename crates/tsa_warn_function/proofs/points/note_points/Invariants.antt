use Rattle.std.proofs.Common.{List}
use Rattle.tsa_core.specs.Programs.{Function, Program}
use Rattle.tsa_place_model.specs.Ways.{Way}
use Rattle.tsa_flow_function.specs.Flows.{IsFlowOf}
use Rattle.tsa_warn_function.specs.Adding.{Adds}
use Rattle.tsa_warn_function.proofs.Pathwise.{Before}
use Rattle.tsa_warn_function.proofs.points.note_points.Given as goal

-- the first points are looked at
abbrev pub invariant-each : goal.invariant-each
invariant-each l = (u : Program) (f : Function) (paths : List Way) → IsFlowOf u f paths l.flow → Adds (Before u f paths l.point) l.fn.found.items l.found.items
