use Rattle.std.proofs.Common.{◌≡◌, drop}
use Rattle.tsa_tree.specs.declarations.Shapes.{init_shapes}
use Rattle.tsa_tree.specs.types.Locals.{names_in_items as premises_in_items}
use Rattle.tsa_tree.specs.types.Premises.{or_else, first}
use Rattle.tsa_types_row.specs.BodyRows.{aside_items}
use Rattle.tsa_types_expressions.proofs.RowLaws.{noted}
use Rattle.tsa_types_simple.proofs.locals.+naming.Given as goal

-- what failed first so far, or does in the further items, is what fails first in all of them
abbrev pub invariant-items_failure-each : goal.invariant-items_failure-each
invariant-items_failure-each l = record {
  failure : or_else l.failure (first (premises_in_items l.view.scope.now (init_shapes (drop l.item-index l.items)))) ≡ first (premises_in_items l.view.scope.now (init_shapes l.items));
  nodes : noted l.row (aside_items l.view.scope.now l.view.function (init_shapes (drop l.item-index l.items)))
      ≡ noted l.fn.row (aside_items l.view.scope.now l.view.function (init_shapes l.items));
}
