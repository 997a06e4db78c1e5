use Rattle.std.proofs.Common.{◌≡◌, ◌++◌, ◌-◌, drop, length}
use Rattle.tsa_tree.specs.expressions.Shapes.{shapes}
use Rattle.tsa_place_model.specs.LockPaths.{stable_in}
use Rattle.tsa_core.specs.Uses.{argument_ways}
use Rattle.tsa_profile_accesses.proofs.body.Body.paths_for.Given as goal

abbrev pub decreases-each : goal.decreases-each
decreases-each l = length l.args - l.number

abbrev pub invariant-each : goal.invariant-each
invariant-each l =
    l.paths.items ++ argument_ways (stable_in l.self.sight.stable.now) l.self.sight.scope.now (drop l.number l.params) (shapes (drop l.number l.args))
    ≡ argument_ways (stable_in l.self.sight.stable.now) l.self.sight.scope.now l.params (shapes l.args)
