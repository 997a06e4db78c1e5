use Rattle.std.proofs.Common.{◌≡◌, drop}
use Rattle.tsa_tree.specs.expressions.Shapes.{shapes}
use Rattle.tsa_tree.specs.types.Attributes.{lock_premises}
use Rattle.tsa_tree.specs.types.Premises.{or_else, first}
use Rattle.tsa_types_row.specs.BodyRows.{aside_all}
use Rattle.tsa_types_expressions.proofs.RowLaws.{noted}
use Rattle.tsa_types_expressions.proofs.expressions.View.locks.Given as goal

-- what failed first so far, or does in the further ones, is what fails first in all of them
abbrev pub invariant-each : goal.invariant-each
invariant-each l = record {
  failure : or_else l.failure (first (lock_premises l.self.scope.now (shapes (drop l.arg-index l.args)))) ≡ first (lock_premises l.self.scope.now (shapes l.args));
  nodes : noted l.row (aside_all l.self.scope.now l.self.function (shapes (drop l.arg-index l.args)))
      ≡ noted l.fn.row (aside_all l.self.scope.now l.self.function (shapes l.args));
}
