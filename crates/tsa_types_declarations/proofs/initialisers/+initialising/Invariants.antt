use Rattle.std.proofs.Common.{◌≡◌, drop}
use Rattle.tsa_tree.specs.declarations.Shapes.{init_shapes}
use Rattle.tsa_tree.specs.types.Initialisers.{parts_of, or_no_parts, list_premises}
use Rattle.tsa_tree.specs.types.Premises.{or_else, first}
use Rattle.tsa_types_row.specs.BodyRows.{aside_items}
use Rattle.tsa_types_expressions.proofs.RowLaws.{noted}
use Rattle.tsa_types_declarations.proofs.initialisers.+initialising.Given as goal

-- what failed first so far, or does in the further items, is what fails first in all of them
abbrev pub invariant-list-each : goal.invariant-list-each
invariant-list-each l = record {
  number : l.number ≡ l.item-index;
  failure : or_else l.failure
      (first (list_premises l.view.scope.now l.view.scope.now.globals (drop l.number (or_no_parts (parts_of l.view.scope.now l.thing))) (init_shapes (drop l.item-index l.items))))
      ≡ first (list_premises l.view.scope.now l.view.scope.now.globals (or_no_parts (parts_of l.view.scope.now l.thing)) (init_shapes l.items));
  nodes : noted l.row (aside_items l.view.scope.now l.view.function (init_shapes (drop l.item-index l.items)))
      ≡ noted l.fn.row (aside_items l.view.scope.now l.view.function (init_shapes l.items));
}
