use Rattle.std.proofs.Common.{◌≡◌, ◌<◌, ℕ, All}
use Rattle.tsa_flow_solver.specs.Agreeing.{AreArrivalsCompared, AreFlagged}
use Rattle.tsa_flow_solver.specs.Passing.{ArePoints}
use Rattle.tsa_flow_solver.specs.Rows.{flags_of, lane_of}
use Rattle.tsa_flow_solver.proofs.joins.Joins.compare_all.Given as goal

abbrev pub invariant-each : goal.invariant-each
invariant-each g l = record {
  rows : l.self.rows.items ≡ l.fn.self.rows.items;
  wide : AreFlagged (g.L.Lanes.count l.lanes) l.fn.self.agreeing.items l.self.agreeing.items;
  flags : (lane : ℕ) → All (ArePoints (g.L.Lanes.points l.lanes)) l.blocks.blocks.items → lane < g.L.Lanes.count l.lanes
      → AreArrivalsCompared (g.L.Lanes.enters l.lanes lane) (g.L.Lanes.cases l.lanes lane) l.blocks l.number (lane_of l.fn.self.rows.items lane) (flags_of l.fn.self.agreeing.items lane) (flags_of l.self.agreeing.items lane);
}
