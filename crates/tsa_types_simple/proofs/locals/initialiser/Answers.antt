use Rattle.std.proofs.Common.{◌∙◌, ap, sym}
use Rattle.tsa_tree.proofs.declarations.Trees.{list_at}
use Rattle.tsa_tree.specs.declarations.Shapes.{init_shapes}
use Rattle.tsa_tree.specs.types.Locals.{can_not_go, names_in_init as premises_in_init}
use Rattle.tsa_tree.specs.types.Premises.{first}
use Rattle.tsa_types_row.specs.BodyRows.{row_in_init}
use Rattle.tsa_types_expressions.proofs.RowLaws.{noted}
use Rattle.tsa_types_simple.proofs.LocalRows.{init_list}
use Rattle.tsa_types_simple.proofs.LocalLaws.{names_list}
use Rattle.tsa_types_simple.proofs.locals.initialiser.Goals as goal

pub returns-in_ok-failure-in-List-clause-breaks : goal.returns-in_ok-failure-in-List-clause-breaks
returns-in_ok-failure-in-List-clause-breaks c =
    sym (ap (can_not_go c.args.view.scope.now c.args.thing) (list_at c.args.init.now c.in-List.items c.in-List.span c.in-List.is))

pub returns-in_ok-failure-in-List-clause-failure : goal.returns-in_ok-failure-in-List-clause-failure
returns-in_ok-failure-in-List-clause-failure c =
    c.in_ok-failure-in-List.ensures.judged
    ∙ sym (ap (λ i. first (premises_in_init c.args.view.scope.now i)) (list_at c.args.init.now c.in-List.items c.in-List.span c.in-List.is)
    ∙ names_list c.args.view.scope.now (init_shapes c.in-List.items.now) c.in-List.span)

pub returns-in_ok-failure-in-List-clause-nodes : goal.returns-in_ok-failure-in-List-clause-nodes
returns-in_ok-failure-in-List-clause-nodes c =
    c.in_ok-failure-in-List.ensures.nodes
    ∙ sym (ap (λ i. noted c.args.row.now (row_in_init c.args.view.scope.now c.args.view.function i)) (list_at c.args.init.now c.in-List.items c.in-List.span c.in-List.is)
    ∙ init_list c.args.view.scope.now c.args.view.function c.args.row.now (init_shapes c.in-List.items.now) c.in-List.span)
