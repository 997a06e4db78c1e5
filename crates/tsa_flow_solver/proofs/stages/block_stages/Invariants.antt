use Rattle.std.proofs.Common.{◌≡◌, ◌<◌, ℕ, length}
use Rattle.tsa_flow_solver.specs.Passing.{ArePoints, IsCarried}
use Rattle.tsa_flow_solver.specs.Rows.{set_at}
use Rattle.tsa_flow_solver.specs.Stages.{AreStages}
use Rattle.tsa_flow_solver.proofs.stages.block_stages.Given as goal

abbrev pub invariant-places : goal.invariant-places
invariant-places g l = record {
  long : length l.row ≡ length l.from;
  each : (lane : ℕ) → ArePoints (g.L.Lanes.points l.lanes) l.block → lane < g.L.Lanes.count l.lanes → IsCarried (g.L.Lanes.cases l.lanes lane) l.block (set_at l.from lane) l.index (set_at l.row lane);
  stages : (lane : ℕ) → ArePoints (g.L.Lanes.points l.lanes) l.block → lane < g.L.Lanes.count l.lanes → AreStages (g.L.Lanes.cases l.lanes lane) l.block (set_at l.from lane) lane l.stages.items;
}
