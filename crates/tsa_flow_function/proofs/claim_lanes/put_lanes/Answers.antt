use Rattle.std.proofs.Common.{subst}
use Rattle.std.proofs.lemmas.List.{take_all}
use Rattle.tsa_flow_function.specs.ClaimLanes.{HaveLanes}
use Rattle.tsa_flow_function.proofs.Laning.{no_lanes, one_lane_more}
use Rattle.tsa_flow_function.proofs.claim_lanes.put_lanes.Goals as goal

pub points-init : goal.points-init
points-init c fits = no_lanes c.args.lane c.args.lists.now fits

pub points-preserved : goal.points-preserved
points-preserved c fits =
    let before = c.points.invariant fits in
    one_lane_more c.args.points.now c.points.point-index c.args.lane c.args.lists.now c.points.lists c.put_lane.new.lists c.points-test.true before (c.in_ok-put_lane.ensures before.fits)

pub returns : goal.returns
returns c fits =
    subst (λ xs. HaveLanes xs c.args.lane c.args.lists.now c.points.lists) (take_all c.points.point-index c.args.points.now c.points-test.false) (c.points.invariant fits)
