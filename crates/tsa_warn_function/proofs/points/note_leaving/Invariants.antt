use Rattle.std.proofs.Common.{◌<◌, List, length}
use Rattle.tsa_core.specs.Programs.{Function, Program}
use Rattle.tsa_rules.specs.Points.{points_of}
use Rattle.tsa_place_model.specs.Ways.{Way}
use Rattle.tsa_flow_function.specs.Flows.{IsFlowOf}
use Rattle.tsa_warn_function.specs.Adding.{Adds}
use Rattle.tsa_warn_function.specs.Passes.{IsOfReturns}
use Rattle.tsa_warn_function.proofs.Pathwise.{UpTo}
use Rattle.tsa_warn_function.proofs.points.note_leaving.Given as goal

-- the first paths are looked at
abbrev pub invariant-each : goal.invariant-each
invariant-each l = (u : Program) (f : Function) (paths : List Way) → IsFlowOf u f paths l.flow → l.point < length (points_of f)
    → Adds (UpTo (IsOfReturns u f paths l.point) l.cap) l.fn.found.items l.found.items
