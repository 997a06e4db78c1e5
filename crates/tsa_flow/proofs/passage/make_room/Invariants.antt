use Rattle.std.proofs.Common.{◌≡◌, ℕ, length}
use Rattle.tsa_flow.specs.Units.{told_at}
use Rattle.tsa_flow.proofs.passage.make_room.Given as goal

-- there is room below a number, and what is told stays
abbrev pub invariant-each : goal.invariant-each
invariant-each l = record { long : length l.flows.items ≡ l.counter; same : (n : ℕ) → told_at l.flows.items n ≡ told_at l.initial.flows.items n }
