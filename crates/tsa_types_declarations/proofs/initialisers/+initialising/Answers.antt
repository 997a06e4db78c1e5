use Rattle.std.proofs.Common.{◌∙◌, ◌+◌, ◌∷◌, suc, drop, Some, None, sym, ap, if◌then◌else◌}
use Rattle.std.proofs.Math.Seq.{drop-cons}
use Rattle.std.proofs.lemmas.List.{drop_all}
use Rattle.tsa_tree.specs.declarations.Shapes.{init_shape, init_shapes}
use Rattle.tsa_tree.specs.declared.premise.TypeCode.TheVariants.{TY9}
use Rattle.tsa_tree.specs.expressions.Shapes.{shape}
use Rattle.tsa_tree.specs.types.Initialisers.{parts_of, or_no_parts, initialiser_premises, list_premises}
use Rattle.tsa_tree.specs.types.Premises.{or_else, first}
use Rattle.tsa_tree.specs.types.Scopes.{context_of}
use Rattle.tsa_types_row.specs.BodyRows.{aside_init}
use Rattle.tsa_tree.proofs.declarations.Trees.{list_at}
use Rattle.tsa_types_expressions.specs.Verdicts.{at}
use Rattle.tsa_types_expressions.proofs.RowLaws as rows
use Rattle.tsa_types_declarations.specs.Cells.{cell_by}
use Rattle.tsa_types_declarations.proofs.InitialiserLaws.{cell_is, init_value, init_list, value_nodes, items_end, items_next}
use Rattle.tsa_types_declarations.proofs.initialisers.+initialising.Goals as goal

pub initialiser-returns-in_ok-found-in-Value-clause-judged : goal.initialiser-returns-in_ok-found-in-Value-clause-judged
initialiser-returns-in_ok-found-in-Value-clause-judged t c =
    let here = c.args.view.scope.now in
    c.cell_failure.ensures ∙ ap (λ n. cell_by n c.args.thing c.in-Value.expr.span c.in_ok-found-in-Value.found) c.next_global-own.ensures
    ∙ ap (cell_by here.globals c.args.thing c.in-Value.expr.span) c.in_ok-found-in-Value.ensures.judged
    ∙ cell_is (context_of here) here.globals c.args.thing c.in-Value.expr ∙ init_value here here.globals c.args.thing (shape c.in-Value.expr)
    ∙ ap (λ i. first (initialiser_premises here here.globals c.args.thing (init_shape i))) (sym c.in-Value.is)

pub initialiser-returns-in_ok-found-in-Value-clause-nodes : goal.initialiser-returns-in_ok-found-in-Value-clause-nodes
initialiser-returns-in_ok-found-in-Value-clause-nodes t c =
    let here = c.args.view.scope.now in
    c.in_ok-found-in-Value.ensures.nodes ∙ value_nodes here c.args.view.function c.args.row.now (shape c.in-Value.expr)
    ∙ ap (λ i. rows.noted c.args.row.now (aside_init here c.args.view.function (init_shape i))) (sym c.in-Value.is)

pub initialiser-returns-in_ok-wrong-in-List-clause-judged : goal.initialiser-returns-in_ok-wrong-in-List-clause-judged
initialiser-returns-in_ok-wrong-in-List-clause-judged t c =
    let here = c.args.view.scope.now in
    c.list_failure.ensures
    ∙ ap (λ b. or_else (if b then Some (at TY9 c.in-List.span) else None) c.in_ok-wrong-in-List.wrong) c.is_misfit-misfit.ensures
    ∙ ap (or_else _) c.in_ok-wrong-in-List.ensures.judged
    ∙ init_list here here.globals c.args.thing (init_shapes c.in-List.items.now) c.in-List.span
    ∙ ap (λ i. first (initialiser_premises here here.globals c.args.thing i)) (sym (list_at c.args.init.now c.in-List.items c.in-List.span c.in-List.is))

pub initialiser-returns-in_ok-wrong-in-List-clause-nodes : goal.initialiser-returns-in_ok-wrong-in-List-clause-nodes
initialiser-returns-in_ok-wrong-in-List-clause-nodes t c =
    let here = c.args.view.scope.now in
    c.in_ok-wrong-in-List.ensures.nodes
    ∙ sym (rows.noted_list here c.args.view.function c.args.row.now (init_shapes c.in-List.items.now) c.in-List.span)
    ∙ ap (λ i. rows.noted c.args.row.now (aside_init here c.args.view.function i)) (sym (list_at c.args.init.now c.in-List.items c.in-List.span c.in-List.is))

pub list-each-preserved : goal.list-each-preserved
list-each-preserved t c =
    let here = c.args.view.scope.now in
    let types = or_no_parts (parts_of here c.args.thing) in
    let at_i = drop-cons c.args.items.now c.each.item-index c.item-item.result c.each-test.true ∙ ap (λ x. x ∷ drop (suc c.each.item-index) c.args.items.now) (sym c.item-item.is) in
    record {
      number = ap (λ n. n + 1) c.each.invariant.number;
      failure =
          ap (λ f. or_else f (first (list_premises here here.globals (drop (c.each.number + 1) types) (init_shapes (drop (c.each.item-index + 1) c.args.items.now))))) c.first_of-failure.ensures
          ∙ items_next here here.globals types c.args.items.now c.each.item-index c.each.number c.item-item.result at_i c.part_at-part.result c.part_at-part.ensures c.each.failure
          c.in_ok-initialiser.field-0 c.in_ok-initialiser.ensures.judged
          ∙ c.each.invariant.failure;
      nodes =
          rows.items_next here c.args.view.function c.each.row c.args.items.now c.each.item-index c.item-item.result at_i c.initialiser.new.row
          c.in_ok-initialiser.ensures.nodes
          ∙ c.each.invariant.nodes;
    }

pub list-returns-clause-judged : goal.list-returns-clause-judged
list-returns-clause-judged t c =
    let here = c.args.view.scope.now in
    sym
    (items_end here here.globals (or_no_parts (parts_of here c.args.thing)) c.args.items.now c.each.item-index c.each.number c.each.failure
    (drop_all c.each.item-index c.args.items.now c.each-test.false))
    ∙ c.each.invariant.failure

pub list-returns-clause-nodes : goal.list-returns-clause-nodes
list-returns-clause-nodes t c =
    sym (rows.items_end c.args.view.scope.now c.args.view.function c.each.row c.args.items.now c.each.item-index
    (drop_all c.each.item-index c.args.items.now c.each-test.false))
    ∙ c.each.invariant.nodes
