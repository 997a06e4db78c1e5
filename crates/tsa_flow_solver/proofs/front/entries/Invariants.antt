use Rattle.std.proofs.Common.{◌≡◌, ◌<◌, ◌↔◌, ℕ, length}
use Rattle.tsa_flow_solver.specs.Rows.{set_at}
use Rattle.tsa_rules.specs.Sets.{Has}
use Rattle.tsa_rules.specs.declared.status.Status.{Status}
use Rattle.tsa_flow_solver.proofs.front.entries.Given as goal

-- the first lanes have their status
abbrev pub invariant-lanes : goal.invariant-lanes
invariant-lanes g l = record {
  long : length l.row ≡ g.L.Lanes.count l.lanes;
  only : (lane : ℕ) → lane < l.lane → (s : Status) → Has (set_at l.row lane) s ↔ (s ≡ g.L.Lanes.enters l.lanes lane);
}
