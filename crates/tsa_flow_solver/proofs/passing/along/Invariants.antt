use Rattle.std.proofs.Common.{◌≡◌, ◌<◌, ℕ, length}
use Rattle.tsa_flow_solver.specs.Passing.{ArePoints, IsCarried}
use Rattle.tsa_flow_solver.specs.Rows.{set_at}
use Rattle.tsa_flow_solver.proofs.passing.along.Given as goal

abbrev pub invariant-places : goal.invariant-places
invariant-places g l = record {
  long : length l.row ≡ length l.fn.row;
  each : (lane : ℕ) → ArePoints (g.L.Lanes.points l.lanes) l.block → lane < g.L.Lanes.count l.lanes → IsCarried (g.L.Lanes.cases l.lanes lane) l.block (set_at l.fn.row lane) l.index (set_at l.row lane);
}
