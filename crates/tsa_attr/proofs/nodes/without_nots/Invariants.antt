use Rattle.std.proofs.Common.{◌≡◌, drop}
use Rattle.std.specs.Option.{option_map}
use Rattle.tsa_tree.specs.attributes.Syntax.{without_nots}
use Rattle.tsa_tree.specs.expressions.Shapes.{shapes}
use Rattle.tsa_expr.specs.Readings.{joined}
use Rattle.tsa_attr.proofs.nodes.without_nots.Given as goal

abbrev pub invariant-each : goal.invariant-each
invariant-each l =
    option_map (joined (shapes l.items.items)) (without_nots (shapes (drop l.arg-index l.args))) ≡ without_nots (shapes l.args)
