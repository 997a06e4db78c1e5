use Rattle.std.proofs.Common.{◌≡◌, ◌++◌, drop}
use Rattle.tsa_tree.specs.declarations.Shapes.{param_shapes}
use Rattle.tsa_rules_view.specs.Parts.{param_kinds}
use Rattle.tsa_rules_view.proofs.parts.param_kinds.Given as goal

abbrev pub invariant-each : goal.invariant-each
invariant-each l = l.kinds.items ++ param_kinds l.scope (param_shapes (drop l.param-index l.params)) ≡ param_kinds l.scope (param_shapes l.params)
