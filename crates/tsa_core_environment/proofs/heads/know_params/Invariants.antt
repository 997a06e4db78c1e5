use Rattle.std.proofs.Common.{◌≡◌, drop, None}
use Rattle.tsa_tree.specs.declarations.Shapes.{param_shapes}
use Rattle.tsa_tree.specs.types.Heads.{params_premises, inside_params}
use Rattle.tsa_tree.specs.types.Premises.{first}
use Rattle.tsa_core_environment.proofs.heads.know_params.Given as goal

abbrev pub invariant-each : goal.invariant-each
invariant-each l = record {
  typed : first (params_premises l.scope l.number (param_shapes (drop l.param-index l.params))) ≡ None;
  behind : inside_params l.scope l.number (param_shapes (drop l.param-index l.params)) ≡ inside_params l.fn.scope 0 (param_shapes l.params);
}
