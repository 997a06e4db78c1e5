use Rattle.std.proofs.Common.{◌+◌, ◌-◌, ◌*◌, ◌<◌, ℕ, length}
use Rattle.tsa_flow_solver.specs.Rows.{lane_of, total}
use Rattle.tsa_flow_solver.specs.Turns.{IsReady}
use Rattle.tsa_flow_solver.proofs.Settling.{Settling, SettlingEvenly}
use Rattle.tsa_flow_solver.proofs.front.Front.settle.Given as goal

abbrev pub invariant-waiting : goal.invariant-waiting
invariant-waiting g l = record {
  ready : IsReady (g.L.Lanes.count l.lanes) (length l.blocks.blocks.items) l.self.rows.items l.self.work.items;
  lanes : (lane : ℕ) → lane < g.L.Lanes.count l.lanes
      → Settling (g.L.Lanes.enters l.lanes lane) (g.L.Lanes.cases l.lanes lane) (g.L.Lanes.points l.lanes) l.blocks (lane_of l.fn.self.rows.items lane) (lane_of l.self.rows.items lane) l.self.work.items;
  even : (lane : ℕ) → lane < g.L.Lanes.count l.lanes
      → SettlingEvenly (g.L.Lanes.enters l.lanes lane) (g.L.Lanes.cases l.lanes lane) (g.L.Lanes.points l.lanes) l.blocks (lane_of l.self.rows.items lane) l.self.work.items l.self.is_even;
}

-- each block that is put on the list has paid by a greater set
abbrev pub decreases-waiting : goal.decreases-waiting
decreases-waiting g l = (length l.self.rows.items * (g.L.Lanes.count l.lanes * 18446744073709551616) - total l.self.rows.items) + length l.self.work.items
