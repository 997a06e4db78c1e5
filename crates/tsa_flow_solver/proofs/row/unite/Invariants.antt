use Rattle.std.proofs.Common.{ℕ, ◌<◌}
use Rattle.tsa_flow_solver.specs.Rows.{set_at}
use Rattle.tsa_rules.specs.Sets.{Has}
use Rattle.tsa_rules.specs.declared.status.Status.{Status}
use Rattle.tsa_flow_solver.proofs.row.unite.Given as goal

-- the statuses of the first lanes are there
abbrev pub invariant-lanes : goal.invariant-lanes
invariant-lanes l = (lane : ℕ) (s : Status) → lane < l.set-index → Has (set_at l.sets lane) s → Has l.all s
