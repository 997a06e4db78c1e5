use Rattle.tsa_flow_function.proofs.Laning.{AreLanesUpto}
use Rattle.tsa_flow_function.proofs.claim_lanes.lanes_at.Given as goal

-- the first lanes stand at their points
abbrev pub invariant-lanes : goal.invariant-lanes
invariant-lanes l = AreLanesUpto l.points l.lane l.claims l.caps l.lists
