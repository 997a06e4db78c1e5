use Rattle.std.proofs.Common.{◌≡◌, drop}
use Rattle.tsa_tree.specs.declarations.Shapes.{param_shapes}
use Rattle.tsa_tree.specs.types.Runnable.{takes_integers}
use Rattle.tsa_profile_declarations.proofs.functions.takes_integers.Given as goal

abbrev pub invariant-each : goal.invariant-each
invariant-each l = takes_integers l.scope (param_shapes (drop l.param-index l.params)) ≡ takes_integers l.scope (param_shapes l.params)
