use Rattle.std.proofs.Common.{◌∙◌, ap, refl}
use Rattle.tsa_flow_function.specs.IdlePaths.{shared_with}
use Rattle.tsa_flow_function.specs.Lanes.{fresh, known}
use Rattle.tsa_flow_function.proofs.table.LaneTable.lane_of.Goals as goal

pub returns-in-Some-clause-found : goal.returns-in-Some-clause-found
returns-in-Some-clause-found c = known c.in-Some.ensures.idle c.in-Some.ensures.among refl

pub returns-clause-found : goal.returns-clause-found
returns-clause-found c =
    fresh c.in_ok-lane.ensures.lane (c.share.ensures.caps ∙ c.in_ok-lane.ensures.caps)
    (c.in_ok-share.ensures.idle ∙ ap (λ xs. shared_with xs c.args.claims.now (record { entry = c.args.entry; lane = c.in_ok-lane.lane })) c.in_ok-lane.ensures.idle)
