use Rattle.std.proofs.Common.{◌≡◌, ◌<◌, ◌≤◌, ℕ, length}
use Rattle.tsa_flow_solver.specs.Passing.{IsPassed}
use Rattle.tsa_flow_solver.specs.Rows.{set_at}
use Rattle.tsa_flow_solver.proofs.passing.pass_pending.Given as goal

-- the first lanes are passed
abbrev pub invariant-lanes : goal.invariant-lanes
invariant-lanes g l = record {
  long : length l.row ≡ length l.fn.row;
  role : (lane : ℕ) → l.role ≡ (g.L.Lanes.cases l.lanes lane l.pass.point).role;
  done : (lane : ℕ) → lane < l.lane → IsPassed (g.L.Lanes.cases l.lanes lane l.pass.point) l.pass.outcome l.claims lane (set_at l.fn.row lane) (set_at l.row lane);
  rest : (lane : ℕ) → l.lane ≤ lane → set_at l.row lane ≡ set_at l.fn.row lane;
}
