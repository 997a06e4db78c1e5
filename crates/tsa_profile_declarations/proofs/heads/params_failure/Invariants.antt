use Rattle.std.proofs.Common.{◌≡◌, drop}
use Rattle.tsa_tree.specs.declarations.Shapes.{param_shapes}
use Rattle.tsa_profile_accesses.specs.Premises.{first}
use Rattle.tsa_profile_declarations.specs.Declarations.{param_premises}
use Rattle.tsa_profile_declarations.proofs.heads.params_failure.Given as goal

abbrev pub invariant-each : goal.invariant-each
invariant-each l = first (param_premises l.scope (param_shapes (drop l.param-index l.params))) ≡ first (param_premises l.scope (param_shapes l.params))
