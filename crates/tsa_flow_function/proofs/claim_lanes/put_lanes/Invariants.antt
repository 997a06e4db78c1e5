use Rattle.std.proofs.Common.{take}
use Rattle.tsa_flow_function.specs.ClaimLanes.{HaveLanes, IsOpen}
use Rattle.tsa_flow_function.proofs.claim_lanes.put_lanes.Given as goal

-- the first points have the lane
abbrev pub invariant-points : goal.invariant-points
invariant-points l = IsOpen l.lane l.fn.lists → HaveLanes (take l.point-index l.points) l.lane l.fn.lists l.lists
