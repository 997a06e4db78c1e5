use Rattle.std.proofs.Common.{◌≡◌, ◌++◌, drop}
use Rattle.tsa_tree.specs.declarations.Shapes.{param_shapes}
use Rattle.tsa_tree.specs.types.Heads.{params_of}
use Rattle.tsa_core_environment.proofs.heads.params_types.Given as goal

abbrev pub invariant-each : goal.invariant-each
invariant-each l = l.types.items ++ params_of l.scope (param_shapes (drop l.param-index l.params)) ≡ params_of l.scope (param_shapes l.params)
