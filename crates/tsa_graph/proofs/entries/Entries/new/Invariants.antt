use Rattle.std.proofs.Common.{◌≡◌, ℕ, [], length, get_or}
use Rattle.tsa_graph.proofs.entries.Entries.new.Given as goal

abbrev pub invariant-each : goal.invariant-each
invariant-each l = record { len : length l.entries ≡ l.counter; none : (q : ℕ) → get_or l.entries q [] ≡ [] }
