use Rattle.std.proofs.Common.{List, map, take}
use Rattle.tsa_core.specs.Programs.{Function, Program}
use Rattle.tsa_place_model.specs.Ways.{Way}
use Rattle.tsa_flow_function.specs.Flows.{IsFlowOf}
use Rattle.tsa_warn_function.specs.Adding.{Adds}
use Rattle.tsa_warn_function.specs.Passes.{IsOfMarks}
use Rattle.tsa_warn_function.proofs.marks.note_marks.Given as goal

-- the first marks are looked at
abbrev pub invariant-each : goal.invariant-each
invariant-each l = (u : Program) (f : Function) (paths : List Way) → IsFlowOf u f paths l.flow → Adds (IsOfMarks u f paths (take l.at (map (λ e. e.0) l.marks.marks))) l.fn.found.items l.found.items
