use Rattle.std.proofs.Common.{◌≡◌, ◌||◌, drop}
use Rattle.tsa_tree.specs.expressions.Shapes.{shapes}
use Rattle.tsa_tree.specs.types.Expressions.{types_of, arguments_break}
use Rattle.tsa_tree.specs.types.Premises.{or_else}
use Rattle.tsa_tree.specs.types.Scopes.{context_of}
use Rattle.tsa_types_row.specs.ExpressionRows.{row_in_all}
use Rattle.tsa_types_expressions.specs.Verdicts.{failure_of_all}
use Rattle.tsa_types_expressions.proofs.RowLaws.{noted}
use Rattle.tsa_types_expressions.proofs.expressions.View.+typing.Given as goal

-- what is found so far, and what the further arguments come to, is what all of them come to
abbrev pub invariant-arguments-each : goal.invariant-arguments-each
invariant-arguments-each l = record {
  number : l.number ≡ l.arg-index;
  breaks : (l.breaks || arguments_break (drop l.number l.params) (types_of (context_of l.self.scope.now) (shapes (drop l.arg-index l.args))))
      ≡ arguments_break l.params (types_of (context_of l.self.scope.now) (shapes l.args));
  failure : or_else l.failure (failure_of_all (context_of l.self.scope.now) (shapes (drop l.arg-index l.args))) ≡ failure_of_all (context_of l.self.scope.now) (shapes l.args);
  nodes : noted l.row (row_in_all l.self.scope.now l.self.function (shapes (drop l.arg-index l.args)))
      ≡ noted l.fn.row (row_in_all l.self.scope.now l.self.function (shapes l.args));
}
