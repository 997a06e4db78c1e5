use Rattle.std.proofs.Common.{◌≡◌, drop}
use Rattle.tsa_profile_points.specs.Gathering.{with_all}
use Rattle.tsa_profile_points.specs.Ways.{substituted_ways}
use Rattle.tsa_profile_points.proofs.paths.Gathered.put_called.Given as goal

abbrev pub invariant-each : goal.invariant-each
invariant-each l = with_all l.self (substituted_ways l.ways (drop l.lock-index l.locks)) ≡ with_all l.fn.self (substituted_ways l.ways l.locks)
