use Rattle.std.proofs.Common.{◌≡◌, drop}
use Rattle.tsa_tree.specs.declarations.Shapes.{param_shapes}
use Rattle.tsa_tree.specs.types.Heads.{agree}
use Rattle.tsa_types.proofs.functions.same_params.Given as goal

abbrev pub invariant-each : goal.invariant-each
invariant-each l = record {
  number : l.number ≡ l.param-index;
  same : agree l.view.scope.now (drop l.number l.known) (param_shapes (drop l.param-index l.params)) ≡ agree l.view.scope.now l.known (param_shapes l.params);
}
