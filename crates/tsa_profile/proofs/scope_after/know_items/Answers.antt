use Rattle.std.proofs.Common.{◌∙◌, ◌∷◌, suc, drop, sym, ap}
use Rattle.std.proofs.Math.Seq.{drop-cons}
use Rattle.std.proofs.lemmas.List.{drop_all}
use Rattle.tsa_profile.proofs.Items.{items_end, item_told, told_next, items_next}
use Rattle.tsa_profile.proofs.scope_after.know_items.Goals as goal

pub know_item-requires : goal.know_item-requires
know_item-requires c =
    let items = c.args.items.now in
    let i = c.each.item-index in
    let x = c.item-item.result in
    let at_i = drop-cons items i x c.each-test.true ∙ ap (λ y. y ∷ drop (suc i) items) (sym c.item-item.is) in
    record { typed = item_told items i c.each.scope x at_i c.each.invariant.typed }

pub each-preserved : goal.each-preserved
each-preserved c =
    let items = c.args.items.now in
    let i = c.each.item-index in
    let x = c.item-item.result in
    let at_i = drop-cons items i x c.each-test.true ∙ ap (λ y. y ∷ drop (suc i) items) (sym c.item-item.is) in
    let known = c.in_ok-know_item.ensures in
    record {
      typed = told_next items i c.each.scope x at_i c.know_item.new.scope known c.each.invariant.typed;
      known = items_next items i c.each.scope x at_i c.know_item.new.scope known ∙ c.each.invariant.known;
    }

pub returns : goal.returns
returns c = sym (items_end c.args.items.now c.each.item-index c.each.scope (drop_all c.each.item-index c.args.items.now c.each-test.false)) ∙ c.each.invariant.known
