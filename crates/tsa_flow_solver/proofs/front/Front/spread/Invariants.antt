use Rattle.std.proofs.Common.{ℕ, ◌<◌, take}
use Rattle.tsa_flow_solver.specs.Courses.{leaving}
use Rattle.tsa_flow_solver.specs.Evenness.{IsSpreadEvenly}
use Rattle.tsa_flow_solver.specs.Fronts.{AreSpread}
use Rattle.tsa_flow_solver.specs.Passing.{ArePoints}
use Rattle.tsa_flow_solver.specs.Rows.{lane_of, set_at}
use Rattle.tsa_flow_solver.proofs.front.Front.spread.Given as goal

-- the first exits are worked out
abbrev pub invariant-exits : goal.invariant-exits
invariant-exits g l = record {
  spread : AreSpread (g.L.Lanes.count l.lanes) (g.L.Lanes.points l.lanes) (g.L.Lanes.cases l.lanes) l.block (take l.exit-index l.block.exits.items) l.last l.fn.self.rows.items l.self.rows.items
      l.fn.self.work.items l.self.work.items;
  even : (lane : ℕ) → ArePoints (g.L.Lanes.points l.lanes) l.block → lane < g.L.Lanes.count l.lanes
      → IsSpreadEvenly (leaving (g.L.Lanes.cases l.lanes lane) l.block) (set_at l.last lane) (take l.exit-index l.block.exits.items) (lane_of l.fn.self.rows.items lane) (lane_of l.self.rows.items lane)
      l.fn.self.is_even l.self.is_even;
}
