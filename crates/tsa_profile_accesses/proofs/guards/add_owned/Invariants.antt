use Rattle.std.proofs.Common.{◌≡◌, ◌++◌, drop}
use Rattle.std.specs.Prelude.{option_map}
use Rattle.tsa_core.specs.Uses.{guards_owned}
use Rattle.tsa_profile_accesses.proofs.guards.add_owned.Given as goal

abbrev pub invariant-each : goal.invariant-each
invariant-each l =
    l.guards.items ++ guards_owned (option_map (λ p. p.now) l.fn.owner) (drop l.path-index l.paths) ≡ l.fn.guards.items ++ guards_owned (option_map (λ p. p.now) l.fn.owner) l.paths
