use Rattle.std.proofs.Common.{◌≡◌, ◌∙◌, ◌∷◌, ◌+◌, OnOk, IfOk, ap, sym, suc, subst, drop}
use Rattle.std.proofs.Math.Seq.{drop-cons}
use Rattle.std.proofs.lemmas.List.{drop_all}
use Rattle.tsa_tree.proofs.declarations.Trees.{list_at}
use Rattle.tsa_tree.specs.declarations.Shapes.{init_shapes}
use Rattle.tsa_tree.specs.types.Locals.{names_in_init as premises_in_init, names_in_items as premises_in_items}
use Rattle.tsa_tree.specs.types.Premises.{or_else, first}
use Rattle.tsa_types_row.specs.BodyRows.{aside_init}
use Rattle.tsa_types_expressions.proofs.RowLaws.{noted, noted_list, items_end, items_next}
use Rattle.tsa_types_simple.proofs.LocalLaws.{names_list, names_end, names_next}
use Rattle.tsa_types_simple.proofs.locals.+naming.Goals as goal

pub items_failure-each-preserved : goal.items_failure-each-preserved
items_failure-each-preserved t c =
    let at_i = drop-cons c.args.items.now c.each.item-index c.item-item.result c.each-test.true ∙ ap (λ x. x ∷ drop (suc c.each.item-index) c.args.items.now) (sym c.item-item.is) in
    record {
      failure =
          ap (λ f. or_else f (first (premises_in_items c.args.view.scope.now (init_shapes (drop (c.each.item-index + 1) c.args.items.now))))) c.first_of-failure.ensures
          ∙ names_next c.args.view.scope.now c.each.failure c.args.items.now c.each.item-index c.item-item.result at_i c.in_ok-names_failure.field-0 c.in_ok-names_failure.ensures.judged
          ∙ c.each.invariant.failure;
      nodes =
          items_next c.args.view.scope.now c.args.view.function c.each.row c.args.items.now c.each.item-index c.item-item.result at_i c.names_failure.new.row
          c.in_ok-names_failure.ensures.nodes
          ∙ c.each.invariant.nodes;
    }

pub items_failure-returns-clause-judged : goal.items_failure-returns-clause-judged
items_failure-returns-clause-judged t c =
    sym (names_end c.args.view.scope.now c.each.failure c.args.items.now c.each.item-index (drop_all c.each.item-index c.args.items.now c.each-test.false))
    ∙ c.each.invariant.failure

pub items_failure-returns-clause-nodes : goal.items_failure-returns-clause-nodes
items_failure-returns-clause-nodes t c =
    sym (items_end c.args.view.scope.now c.args.view.function c.each.row c.args.items.now c.each.item-index
    (drop_all c.each.item-index c.args.items.now c.each-test.false))
    ∙ c.each.invariant.nodes

pub names_failure-returns-in-List-clause-judged : goal.names_failure-returns-in-List-clause-judged
names_failure-returns-in-List-clause-judged t c =
    subst (λ o. IfOk c.items_failure.result (λ failure. failure ≡ o))
    (sym (ap (λ i. first (premises_in_init c.args.view.scope.now i)) (list_at c.args.init.now c.in-List.items c.in-List.span c.in-List.is)
    ∙ names_list c.args.view.scope.now (init_shapes c.in-List.items.now) c.in-List.span))
    c.items_failure.ensures.judged

pub names_failure-returns-in-List-clause-nodes : goal.names_failure-returns-in-List-clause-nodes
names_failure-returns-in-List-clause-nodes t c =
    subst (λ n. OnOk c.items_failure.result (c.items_failure.new.row ≡ n))
    (sym (ap (λ i. noted c.args.row.now (aside_init c.args.view.scope.now c.args.view.function i)) (list_at c.args.init.now c.in-List.items c.in-List.span c.in-List.is)
    ∙ noted_list c.args.view.scope.now c.args.view.function c.args.row.now (init_shapes c.in-List.items.now) c.in-List.span))
    c.items_failure.ensures.nodes
