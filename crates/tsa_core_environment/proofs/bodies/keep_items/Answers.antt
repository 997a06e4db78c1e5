use Rattle.std.proofs.Common.{◌∙◌, ◌∷◌, suc, drop, sym, ap}
use Rattle.std.proofs.Math.Seq.{drop-cons}
use Rattle.std.proofs.lemmas.List.{drop_all}
use Rattle.tsa_core_environment.proofs.BodyLists.{items_end, item_told, told_next, bodies_next}
use Rattle.tsa_core_environment.proofs.bodies.keep_items.Goals as goal

pub keep_item-requires : goal.keep_item-requires
keep_item-requires c =
    let items = c.args.items.now in
    let i = c.each.item-index in
    let x = c.item-item.result in
    let at_i = drop-cons items i x c.each-test.true ∙ ap (λ y. y ∷ drop (suc i) items) (sym c.item-item.is) in
    record { typed = item_told items i c.each.scope c.each.table x at_i c.each.invariant.typed }

pub each-preserved : goal.each-preserved
each-preserved c =
    let items = c.args.items.now in
    let i = c.each.item-index in
    let x = c.item-item.result in
    let at_i = drop-cons items i x c.each-test.true ∙ ap (λ y. y ∷ drop (suc i) items) (sym c.item-item.is) in
    let one = c.in_ok-scope.ensures in
    record {
      typed = told_next items i c.each.scope c.each.table x at_i c.in_ok-scope.scope one.behind c.each.invariant.typed;
      kept = bodies_next items i c.each.scope c.each.table x at_i c.in_ok-scope.scope one.behind c.keep_item.new.table one.kept ∙ c.each.invariant.kept;
    }

pub returns : goal.returns
returns c = sym (items_end c.args.items.now c.each.item-index c.each.scope c.each.table (drop_all c.each.item-index c.args.items.now c.each-test.false)) ∙ c.each.invariant.kept
