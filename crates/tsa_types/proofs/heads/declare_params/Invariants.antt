use Rattle.std.proofs.Common.{◌≡◌, drop}
use Rattle.tsa_tree.specs.declarations.Shapes.{param_shapes}
use Rattle.tsa_tree.specs.types.Heads.{params_premises, inside_params}
use Rattle.tsa_tree.specs.types.Premises.{first}
use Rattle.tsa_types_row.specs.ItemRows.{row_in_params}
use Rattle.tsa_types_expressions.proofs.RowLaws.{noted}
use Rattle.tsa_types.proofs.heads.declare_params.Given as goal

-- what is left to judge is what decides, and what is known behind it is what is known behind all
abbrev pub invariant-each : goal.invariant-each
invariant-each l = record {
  judged : first (params_premises l.scope l.number (param_shapes (drop l.param-index l.params))) ≡ first (params_premises l.fn.scope 0 (param_shapes l.params));
  behind : inside_params l.scope l.number (param_shapes (drop l.param-index l.params)) ≡ inside_params l.fn.scope 0 (param_shapes l.params);
  nodes : noted l.row (row_in_params l.scope l.function l.number (param_shapes (drop l.param-index l.params)))
      ≡ noted l.fn.row (row_in_params l.fn.scope l.function 0 (param_shapes l.params));
}
