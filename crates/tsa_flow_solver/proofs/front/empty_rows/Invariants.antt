use Rattle.std.proofs.Common.{◌≡◌, ℕ, length}
use Rattle.tsa_flow_solver.specs.Rows.{AreWide, no_statuses, row_at, set_at}
use Rattle.tsa_flow_solver.proofs.front.empty_rows.Given as goal

-- the first blocks have their rows
abbrev pub invariant-each : goal.invariant-each
invariant-each l = record {
  long : length l.rows.items ≡ l.counter;
  wide : AreWide l.count l.rows.items;
  none : (k c : ℕ) → set_at (row_at l.rows.items c) k ≡ no_statuses;
}
