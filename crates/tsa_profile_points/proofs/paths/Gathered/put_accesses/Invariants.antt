use Rattle.std.proofs.Common.{◌≡◌, drop}
use Rattle.tsa_profile_points.specs.Gathering.{with_guards}
use Rattle.tsa_profile_points.proofs.paths.Gathered.put_accesses.Given as goal

abbrev pub invariant-each : goal.invariant-each
invariant-each l = with_guards l.self (drop l.access-index l.found) ≡ with_guards l.fn.self l.found
