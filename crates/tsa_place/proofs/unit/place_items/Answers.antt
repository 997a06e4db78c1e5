use Rattle.std.proofs.Common.{◌∙◌, ◌∷◌, suc, drop, Err, sym, ap, subst}
use Rattle.std.proofs.Math.Seq.{drop-cons}
use Rattle.std.proofs.lemmas.List.{drop_all}
use Rattle.tsa_place.specs.Answers.{GivesAll}
use Rattle.tsa_place.proofs.UnitLists.{items_end, items_next, items_refused, same_next}
use Rattle.tsa_place.proofs.unit.place_items.Goals as goal

pub returns-in-Err : goal.returns-in-Err
returns-in-Err c =
    let items = c.args.items.now in
    let i = c.each.item-index in
    let x = c.item-item.result in
    let at = drop-cons items i x c.each-test.true ∙ ap (λ y. y ∷ drop (suc i) items) (sym c.item-item.is) in
    subst (λ f. GivesAll f c.place_item.new.globals (Err c.in-Err.refusal)) c.each.invariant.found
    (items_refused items i c.each.scope c.each.globals x at c.place_item.new.scope c.place_item.new.globals c.in-Err.refusal c.in-Err.ensures)

pub each-preserved : goal.each-preserved
each-preserved c =
    let items = c.args.items.now in
    let i = c.each.item-index in
    let x = c.item-item.result in
    let at = drop-cons items i x c.each-test.true ∙ ap (λ y. y ∷ drop (suc i) items) (sym c.item-item.is) in
    let done = c.in_default.ensures in
    record {
      same = same_next items i c.each.scope c.each.globals x at c.place_item.new.scope c.place_item.new.globals done.1.0 done.1.1 c.each.invariant.same;
      found = items_next items i c.each.scope c.each.globals x at c.place_item.new.scope c.place_item.new.globals done.0 done.1.0 done.1.1 ∙ c.each.invariant.found;
    }

pub returns : goal.returns
returns c = sym c.each.invariant.found ∙ items_end c.args.items.now c.each.item-index c.each.scope c.each.globals (drop_all c.each.item-index c.args.items.now c.each-test.false)
