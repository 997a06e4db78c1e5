use Rattle.std.proofs.Common.{◌≡◌, ℕ, All, length, true, slice_index_or, []}
use Rattle.tsa_flow_solver.specs.Rows.{flag_at}
use Rattle.tsa_flow_solver.proofs.edges.all_agreeing.Given as goal

-- the first blocks have their flags
abbrev pub invariant-each : goal.invariant-each
invariant-each l = record {
  long : length l.grid.items ≡ l.counter;
  wide : All (λ flags. length flags ≡ l.count) l.grid.items;
  all : (k c : ℕ) → flag_at (slice_index_or l.grid.items c []) k ≡ true;
}
