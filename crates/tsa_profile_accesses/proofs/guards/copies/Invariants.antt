use Rattle.std.proofs.Common.{◌≡◌, ◌++◌, drop}
use Rattle.tsa_profile_accesses.proofs.guards.copies.Given as goal

abbrev pub invariant-each : goal.invariant-each
invariant-each l = l.after.items ++ drop l.path-index l.paths ≡ l.paths
