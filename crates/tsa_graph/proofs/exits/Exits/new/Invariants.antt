use Rattle.std.proofs.Common.{◌≡◌, ℕ, [], length, get_or}
use Rattle.tsa_graph.proofs.exits.Exits.new.Given as goal

abbrev pub invariant-each : goal.invariant-each
invariant-each l = record { len : length l.exits ≡ l.counter; none : (b : ℕ) → get_or l.exits b [] ≡ [] }
