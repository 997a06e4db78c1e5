use Rattle.std.proofs.Common.{◌≡◌, ◌<◌, arith, length, subst, sym}
use Rattle.tsa_flow_function.specs.ClaimLanes.{HaveLanes}
use Rattle.tsa_flow_function.proofs.Laning.{all_upto, AreLanesUpto, none_upto, one_upto}
use Rattle.tsa_flow_function.proofs.claim_lanes.lanes_at.Goals as goal

pub lanes-init : goal.lanes-init
lanes-init c = subst (AreLanesUpto c.args.points 0 c.args.claims.now c.args.caps.now) (sym c.in_ok-lists.ensures) (none_upto c.args.points c.args.claims.now c.args.caps.now)

pub lanes-preserved : goal.lanes-preserved
lanes-preserved c =
    let inside : c.lanes.lane < length c.args.caps.now = omega (arith, c.lanes-test.true, c.lanes.auto.lane-end, c.in_ok-count.ensures) in
    let at = c.at.ensures in
    one_upto c.args.points c.lanes.lane c.args.claims.now c.args.caps.now c.lanes.lists c.put_lanes.new.lists c.lanes.invariant
    (subst (λ ps. HaveLanes ps c.lanes.lane c.lanes.lists c.put_lanes.new.lists) at (c.in_ok-put_lanes.ensures c.lanes.invariant.fits))

pub returns : goal.returns
returns c =
    let all : c.lanes.lane ≡ length c.args.caps.now = omega (arith, c.lanes-test.false, c.lanes.auto.lane-end, c.in_ok-count.ensures) in
    all_upto c.args.points c.args.claims.now c.args.caps.now c.lanes.lists (subst (λ n. AreLanesUpto c.args.points n c.args.claims.now c.args.caps.now c.lanes.lists) all c.lanes.invariant)
