use Rattle.std.proofs.Common.{◌≡◌, drop}
use Rattle.tsa_profile_points.specs.Gathering.{with_all}
use Rattle.tsa_profile_points.proofs.paths.Gathered.put_guards.Given as goal

abbrev pub invariant-each : goal.invariant-each
invariant-each l = with_all l.self (drop l.guard-index l.guards) ≡ with_all l.fn.self l.guards
