use Rattle.std.proofs.Common.{◌≡◌, ◌++◌, drop}
use Rattle.tsa_tree.specs.expressions.Shapes.{shapes}
use Rattle.tsa_place_model.specs.Parts.{argument_ways}
use Rattle.tsa_place_layout.proofs.guards.add_paths.Given as goal

abbrev pub invariant-each : goal.invariant-each
invariant-each l = l.paths.items ++ argument_ways l.fn.scope (shapes (drop l.arg-index l.args)) ≡ l.fn.paths.items ++ argument_ways l.fn.scope (shapes l.args)
