use Rattle.std.proofs.Common.{◌∙◌, ◌∷◌, suc, drop, sym, ap}
use Rattle.std.proofs.Math.Seq.{drop-cons}
use Rattle.std.proofs.lemmas.List.{drop_all}
use Rattle.std.proofs.lemmas.Result.{IfOk-weaker}
use Rattle.tsa_tree.proofs.declarations.Trees.{list_at}
use Rattle.tsa_tree.specs.declarations.Shapes.{init_shape, init_shapes}
use Rattle.tsa_tree.specs.expressions.Shapes.{shape}
use Rattle.tsa_profile_accesses.specs.Premises.{first}
use Rattle.tsa_profile_accesses.specs.NodeAnswers.{view_of}
use Rattle.tsa_profile_declarations.specs.Declarations.{init_premises}
use Rattle.tsa_profile_declarations.proofs.EachItem.{item_passes, item_stops, list_asked, no_item, value_asked}
use Rattle.tsa_profile_declarations.proofs.initialisers.+initialising.Goals as goal

pub init_failure-returns-in-Value : goal.init_failure-returns-in-Value
init_failure-returns-in-Value t c =
    let v = view_of c.args.body in
    IfOk-weaker c.place_failure.result _ _
    (λ failure h. h ∙ value_asked v (shape c.in-Value.expr) ∙ ap (λ i. first (init_premises v (init_shape i))) (sym c.in-Value.is))
    c.place_failure.ensures

pub init_failure-returns-in-List : goal.init_failure-returns-in-List
init_failure-returns-in-List t c =
    let v = view_of c.args.body in
    IfOk-weaker c.items_failure.result _ _
    (λ failure h. h ∙ list_asked v (init_shapes c.in-List.items.now) c.in-List.span
    ∙ ap (λ i. first (init_premises v i)) (sym (list_at c.args.init.now c.in-List.items c.in-List.span c.in-List.is)))
    c.items_failure.ensures

pub items_failure-returns-in-Some : goal.items_failure-returns-in-Some
items_failure-returns-in-Some t c =
    let at_i = drop-cons c.args.items.now c.each.item-index c.item-item.result c.each-test.true ∙ ap (λ x. x ∷ drop (suc c.each.item-index) c.args.items.now) (sym c.item-item.is) in
    item_stops (view_of c.args.body) c.args.items.now c.each.item-index c.item-item.result at_i c.in-Some.failure (sym c.in-Some.is ∙ c.in_ok-failure.ensures) ∙ c.each.invariant

pub items_failure-each-preserved : goal.items_failure-each-preserved
items_failure-each-preserved t c =
    let at_i = drop-cons c.args.items.now c.each.item-index c.item-item.result c.each-test.true ∙ ap (λ x. x ∷ drop (suc c.each.item-index) c.args.items.now) (sym c.item-item.is) in
    item_passes (view_of c.args.body) c.args.items.now c.each.item-index c.item-item.result at_i (sym c.in_default.is ∙ c.in_ok-failure.ensures) ∙ c.each.invariant

pub items_failure-returns : goal.items_failure-returns
items_failure-returns t c = no_item (view_of c.args.body) c.args.items.now c.each.item-index (drop_all c.each.item-index c.args.items.now c.each-test.false) ∙ c.each.invariant
