use Rattle.std.proofs.Common.{◌<◌, ◌≤◌}
use Rattle.tsa_graph.specs.Rows.{last_in}
use Rattle.tsa_flow_solver.specs.Passing.{ArePoints, IsCarried}
use Rattle.tsa_rules.specs.declared.statuses.Statuses.{Statuses}
use Rattle.tsa_flow_solver.proofs.sets.walk.Given as goal

abbrev pub invariant-places : goal.invariant-places
invariant-places g l =
    (first : Statuses) → ArePoints (g.L.Lanes.points l.lanes) l.block → l.from.lane < g.L.Lanes.count l.lanes → l.to ≤ last_in l.block
    → IsCarried (g.L.Lanes.cases l.lanes l.from.lane) l.block first l.from.at l.from.set → IsCarried (g.L.Lanes.cases l.lanes l.from.lane) l.block first l.index l.set
