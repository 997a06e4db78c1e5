use Rattle.std.proofs.Common.{◌≡◌, drop}
use Rattle.tsa_profile_points.specs.Gathering.{with_all}
use Rattle.tsa_profile_points.specs.Ways.{named_ways}
use Rattle.tsa_profile_points.proofs.paths.Gathered.put_named.Given as goal

abbrev pub invariant-each : goal.invariant-each
invariant-each l = with_all l.self (named_ways (drop l.lock-index l.locks)) ≡ with_all l.fn.self (named_ways l.locks)
