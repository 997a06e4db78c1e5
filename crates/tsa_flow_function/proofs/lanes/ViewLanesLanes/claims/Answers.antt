use Rattle.std.proofs.Common.{[], Contains, slice_index_or, subst, sym}
use Rattle.tsa_flow_solver.proofs.Still.{is_among}
use Rattle.tsa_flow_function.proofs.lanes.ViewLanesLanes.claims.Goals as goal

pub returns-clause-all : goal.returns-clause-all
returns-clause-all c lane inside less claim =
    subst (λ xs. Contains xs lane) (sym c.at.ensures)
    (is_among (slice_index_or c.args.self.now.claims.now c.args.point []) lane (c.args.self.now.claimed.all lane c.args.point inside less claim))
