use Rattle.std.proofs.Common.{◌≡◌, ◌<◌, ℕ, length, take}
use Rattle.tsa_flow_solver.specs.Passing.{IsClaimPassed}
use Rattle.tsa_flow_solver.specs.Rows.{set_at}
use Rattle.tsa_flow_solver.proofs.passing.pass_claims.Given as goal

-- the first claims are passed
abbrev pub invariant-claims : goal.invariant-claims
invariant-claims g l = record {
  long : length l.row ≡ length l.fn.row;
  each : (lane : ℕ) → lane < g.L.Lanes.count l.lanes → IsClaimPassed (g.L.Lanes.cases l.lanes lane l.pass.point) l.pass.outcome (take l.lane-index l.claims) lane (set_at l.fn.row lane) (set_at l.row lane);
}
