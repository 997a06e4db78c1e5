use Rattle.std.proofs.Common.{◌≡◌, ◌++◌, length}
use Rattle.std.specs.Prelude.{reverse}
use Rattle.tsa_profile_accesses.proofs.footprint.move_from_last.Given as goal

abbrev pub decreases-each : goal.decreases-each
decreases-each l = length l.from_last.items

abbrev pub invariant-each : goal.invariant-each
invariant-each l = l.found.items ++ reverse l.from_last.items ≡ l.fn.found.items ++ reverse l.fn.from_last.items
