use Rattle.std.proofs.Common.{◌≡◌, drop}
use Rattle.tsa_tree.specs.attributes.Syntax.{attr_shapes}
use Rattle.tsa_tree.specs.types.Attributes.{attributes_premises}
use Rattle.tsa_tree.specs.types.Premises.{or_else, first}
use Rattle.tsa_types_row.specs.BodyRows.{aside_attributes}
use Rattle.tsa_types_expressions.proofs.RowLaws.{noted}
use Rattle.tsa_types_expressions.proofs.expressions.View.attributes.Given as goal

-- what failed first so far, or does in the further ones, is what fails first in all of them
abbrev pub invariant-each : goal.invariant-each
invariant-each l = record {
  failure : or_else l.failure (first (attributes_premises l.self.scope.now l.bearer (attr_shapes (drop l.attr-index l.attrs)))) ≡ first (attributes_premises l.self.scope.now l.bearer (attr_shapes l.attrs));
  nodes : noted l.row (aside_attributes l.self.scope.now l.self.function (attr_shapes (drop l.attr-index l.attrs)))
      ≡ noted l.fn.row (aside_attributes l.self.scope.now l.self.function (attr_shapes l.attrs));
}
