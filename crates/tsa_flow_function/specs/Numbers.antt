-- What walks bring to the points of the function of a number.
use Rattle.std.specs.Prelude.{◌≡◌, List, Option, Some, None}
use Rattle.tsa_place_model.specs.Ways.{Way}
use Rattle.tsa_core.specs.Programs.{Function, Program}
use Rattle.tsa_rules_view.specs.Paths.{paths_if}
use Rattle.tsa_flow_function.specs.declared.function.FunctionFlow.{FunctionFlow}
use Rattle.tsa_flow_function.specs.Flows.{IsFlowOf}

-- to all of its paths, where it has a body and there are no more than it may have; else there is nothing to tell
abbrev pub IsFlowBy : Program → Function → Option (List Way) → Option FunctionFlow → Type 0
IsFlowBy u f None flow = flow ≡ None
IsFlowBy u f (Some paths) flow = (w : FunctionFlow) × ((flow ≡ Some w) × IsFlowOf u f paths w)

abbrev pub IsFlowIn : Program → Option Function → Option FunctionFlow → Type 0
IsFlowIn u None flow = flow ≡ None
IsFlowIn u (Some f) flow = IsFlowBy u f (paths_if u f) flow
