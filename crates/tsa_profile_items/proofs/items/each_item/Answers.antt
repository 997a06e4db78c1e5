use Rattle.std.proofs.Common.{◌∙◌, ◌∷◌, suc, drop, sym, ap}
use Rattle.std.proofs.Math.Seq.{drop-cons}
use Rattle.std.proofs.lemmas.List.{drop_all}
use Rattle.std.proofs.lemmas.Result.{err_from_is_err_and}
use Rattle.tsa_tree.proofs.types.UnitNodes.{premises_tell_it}
use Rattle.tsa_tree.specs.types.Premises.{first}
use Rattle.tsa_tree.specs.types.Units.{items_premises}
use Rattle.tsa_tree.specs.units.Shapes.{item_shape, item_shapes}
use Rattle.tsa_profile_accesses.specs.Premises as asked
use Rattle.tsa_profile_context.specs.Judging.{behind_all, unit_at}
use Rattle.tsa_profile_context.specs.Units as profile
use Rattle.tsa_profile_items.proofs.ItemLists.{item_typed, items_end, items_next, items_stop, known_end, known_next, typed_next}
use Rattle.tsa_profile_items.proofs.NoOwned.{owned_kept}
use Rattle.tsa_profile_context.proofs.Sequences.{judges_err}
use Rattle.tsa_profile_items.proofs.items.each_item.Goals as goal

pub each-init : goal.each-init
each-init c =
    let u = unit_at c.args.ground.now in
    let items = item_shapes c.args.ground.now.items.now in
    record {
      outside = ap (λ k. k.here.owned) c.requires.outset;
      typed = ap (λ k. first (items_premises k.here items)) c.requires.outset ∙ (sym (premises_tell_it items) ∙ c.args.ground.now.typed);
      judged = ap (λ k. asked.first (profile.items_premises u k.attributes k.here items)) c.requires.outset;
      behind = ap (λ k. behind_all u k items) c.requires.outset;
    }

pub item-requires-clause-outside : goal.item-requires-clause-outside
item-requires-clause-outside c = c.each.invariant.outside

pub item-requires-clause-typed : goal.item-requires-clause-typed
item-requires-clause-typed c =
    let items = c.args.ground.now.items.now in
    let i = c.each.next-index in
    let x = c.next-item.result in
    let at_i = drop-cons items i x c.each-test.true ∙ ap (λ y. y ∷ drop (suc i) items) (sym c.next-item.is) in
    item_typed c.each.known.here items i x at_i c.each.invariant.typed

pub returns-in_err-item-clause-judged : goal.returns-in_err-item-clause-judged
returns-in_err-item-clause-judged c =
    let items = c.args.ground.now.items.now in
    let i = c.each.next-index in
    let x = c.next-item.result in
    let at_i = drop-cons items i x c.each-test.true ∙ ap (λ y. y ∷ drop (suc i) items) (sym c.next-item.is) in
    let p = err_from_is_err_and c.from_residual.result c.from_residual.ensures.1 in
    rw (p.1, p.2)
    (judges_err _ _ c.in_err-item.field-0.0 c.each.invariant.judged
    (items_stop (unit_at c.args.ground.now) items i c.each.known x at_i c.in_err-item.field-0.0 c.in_err-item.ensures.judged))

pub each-preserved : goal.each-preserved
each-preserved c =
    let u = unit_at c.args.ground.now in
    let items = c.args.ground.now.items.now in
    let i = c.each.next-index in
    let x = c.next-item.result in
    let at_i = drop-cons items i x c.each-test.true ∙ ap (λ y. y ∷ drop (suc i) items) (sym c.next-item.is) in
    let k = c.each.known in
    let next = c.item.new.known in
    let one = c.in_ok-item.ensures in
    record {
      outside = ap (λ m. m.here.owned) one.behind ∙ owned_kept k.here (item_shape x) ∙ c.each.invariant.outside;
      typed = typed_next k.here items i x at_i next.here (ap (λ m. m.here) one.behind) c.each.invariant.typed;
      judged = items_next u items i k x at_i next one.judged one.behind ∙ c.each.invariant.judged;
      behind = known_next u items i k x at_i next one.behind ∙ c.each.invariant.behind;
    }

pub returns-clause-judged : goal.returns-clause-judged
returns-clause-judged c =
    let items = c.args.ground.now.items.now in
    let i = c.each.next-index in
    sym c.each.invariant.judged ∙ items_end (unit_at c.args.ground.now) items i c.each.known (drop_all i items c.each-test.false)

pub returns-clause-behind : goal.returns-clause-behind
returns-clause-behind c =
    let items = c.args.ground.now.items.now in
    let i = c.each.next-index in
    sym (known_end (unit_at c.args.ground.now) items i c.each.known (drop_all i items c.each-test.false)) ∙ c.each.invariant.behind
