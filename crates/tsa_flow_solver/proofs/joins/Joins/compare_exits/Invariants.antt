use Rattle.std.proofs.Common.{◌≡◌, ◌<◌, ℕ, take}
use Rattle.tsa_flow_solver.specs.Agreeing.{AreExitsCompared, AreFlagged}
use Rattle.tsa_flow_solver.specs.Courses.{leaving}
use Rattle.tsa_flow_solver.specs.Passing.{ArePoints}
use Rattle.tsa_flow_solver.specs.Rows.{flags_of, lane_of, set_at}
use Rattle.tsa_flow_solver.proofs.joins.Joins.compare_exits.Given as goal

abbrev pub invariant-exits : goal.invariant-exits
invariant-exits g l = record {
  rows : l.self.rows.items ≡ l.fn.self.rows.items;
  wide : AreFlagged (g.L.Lanes.count l.lanes) l.fn.self.agreeing.items l.self.agreeing.items;
  flags : (lane : ℕ) → ArePoints (g.L.Lanes.points l.lanes) l.block → lane < g.L.Lanes.count l.lanes
      → AreExitsCompared (leaving (g.L.Lanes.cases l.lanes lane) l.block) (set_at l.last lane) (take l.exit-index l.block.exits.items) (lane_of l.fn.self.rows.items lane) (flags_of l.fn.self.agreeing.items lane) (flags_of l.self.agreeing.items lane);
}
