use Rattle.std.proofs.Common.{◌≡◌, ◌≤◌, drop, length}
use Rattle.tsa_tree.specs.expressions.Shapes.{shapes}
use Rattle.tsa_place_model.specs.LockPaths.{stable_in}
use Rattle.tsa_core.specs.Cells.{argument_cells}
use Rattle.tsa_profile_guards.specs.Accesses.{before}
use Rattle.tsa_profile_guards.specs.Failures.{failing_arguments}
use Rattle.tsa_profile_accesses.specs.NodeAnswers.{view_of}
use Rattle.tsa_profile_guards.proofs.walking.+walking.Given as goal

abbrev pub decreases-arguments-each : goal.decreases-arguments-each
decreases-arguments-each l = l.number

-- the arguments from here on come before what was found, and what fails in them before what failed
abbrev pub invariant-arguments-each : goal.invariant-arguments-each
invariant-arguments-each l = record {
  within : l.number ≤ length l.args;
  found : l.uses.accesses ≡ before l.body.layout.now (stable_in l.body.sight.stable.now) l.body.sight.scope.now (argument_cells l.body.sight.scope.now (shapes (drop l.number l.args))) l.fn.uses.accesses;
  fails : l.uses.failure ≡ failing_arguments (view_of l.body) (shapes (drop l.number l.args)) l.fn.uses.failure;
}
