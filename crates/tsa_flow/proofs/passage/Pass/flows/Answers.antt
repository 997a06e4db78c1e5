use Rattle.std.proofs.Common.{◌≡◌, ◌∙◌, ◌∷◌, suc, [], None, drop, sym, ap, ap₂, subst}
use Rattle.std.proofs.Math.Seq.{drop-cons}
use Rattle.std.proofs.lemmas.List.{drop_all}
use Rattle.tsa_tree.proofs.types.UnitNodes.{premises_tell_it}
use Rattle.tsa_tree.specs.types.FirstFailing.{first_failing}
use Rattle.tsa_tree.specs.types.Premises.{first}
use Rattle.tsa_tree.specs.types.Units.{items_premises}
use Rattle.tsa_tree.specs.units.Shapes.{item_shapes}
use Rattle.tsa_rules_bodies.proofs.ItemLists.{item_typed, typed_next}
use Rattle.tsa_profile_context.specs.Judging.{unit_at}
use Rattle.tsa_rules_bodies.proofs.PointNumbers.{item_points, read_points}
use Rattle.tsa_rules_bodies.specs.Knowing.{outset_of}
use Rattle.tsa_profile_context.specs.Units.{unit_of}
use Rattle.tsa_flow.specs.Units.{IsAhead, told_at}
use Rattle.tsa_flow.proofs.Passing.{all_told, none_told}
use Rattle.tsa_flow.proofs.Room.{none_at}
use Rattle.tsa_flow.proofs.passage.Pass.flows.Goals as goal
use Rattle.tsa_base.proofs.Numbers.{plus_one}

pub each-init : goal.each-init
each-init c =
    let s = c.args.self.now in
    let items = item_shapes s.ground.items.now in
    let flows = c.new-flows.result.items in
    let unit : unit_at s.ground ≡ unit_of [] items = ap (λ o. unit_of o items) s.inside in
    let known = c.in_ok-known.ensures ∙ ap outset_of unit in
    let typed = s.ground.typed in
    record {
      typed = ap (λ k. first (items_premises k.here items)) known ∙ (sym (premises_tell_it items) ∙ typed);
      ahead = λ n.
          subst (λ k. IsAhead items k items flows n) (sym known) (none_told items flows n (ap (λ fs. told_at fs n) c.new-flows.ensures.items ∙ none_at n));
    }

pub item-requires-clause-typed : goal.item-requires-clause-typed
item-requires-clause-typed c =
    let items = c.args.self.now.ground.items.now in
    let i = c.each.item-index in
    let x = c.item-item.result in
    let at_i = drop-cons items i x c.each-test.true ∙ ap (λ y. y ∷ drop (suc i) items) (sym c.item-item.is) in
    item_typed c.each.known.here items i x at_i c.each.invariant.typed

pub item-requires-clause-points : goal.item-requires-clause-points
item-requires-clause-points c =
    let s = c.args.self.now in
    let items = s.ground.items.now in
    let i = c.each.item-index in
    let x = c.item-item.result in
    let at_i = drop-cons items i x c.each-test.true ∙ ap (λ y. y ∷ drop (suc i) items) (sym c.item-item.is) in
    item_points items i x (drop (suc i) items) at_i
    (read_points s.fit.now.typed.unit.now.items.now items (ap (λ xs. xs.now) (s.judged ∙ sym s.fits)) s.fit.now.typed.well_read)

pub item-requires-clause-ahead : goal.item-requires-clause-ahead
item-requires-clause-ahead c =
    let items = c.args.self.now.ground.items.now in
    let i = c.each.item-index in
    let x = c.item-item.result in
    let at_i = drop-cons items i x c.each-test.true ∙ ap (λ y. y ∷ drop (suc i) items) (sym c.item-item.is) in (
      item_shapes (drop (suc i) items),
      λ n. subst (λ xs. IsAhead (item_shapes items) c.each.known (item_shapes xs) c.each.flows.items n) at_i (c.each.invariant.ahead n),
    )

pub each-preserved : goal.each-preserved
each-preserved c =
    let items = c.args.self.now.ground.items.now in
    let i = c.each.item-index in
    let x = c.item-item.result in
    let at_i = drop-cons items i x c.each-test.true ∙ ap (λ y. y ∷ drop (suc i) items) (sym c.item-item.is) in
    let k = c.each.known in
    let next = c.item.new.known in
    let ahead = c.in_ok-item.ensures.ahead (item_shapes (drop (suc i) items))
    (λ n. subst (λ xs. IsAhead (item_shapes items) k (item_shapes xs) c.each.flows.items n) at_i (c.each.invariant.ahead n)) in
    record {
      typed = typed_next k.here items i x at_i next.here (ap (λ m. m.here) c.in_ok-item.ensures.known) c.each.invariant.typed;
      ahead = λ n. subst (λ j. IsAhead (item_shapes items) next (item_shapes (drop j items)) c.item.new.flows.items n) (plus_one i) (ahead n);
    }

pub returns : goal.returns
returns c n =
    let s = c.args.self.now in
    let items = s.ground.items.now in
    let i = c.each.item-index in
    let typed = s.ground.typed in
    all_told (item_shapes items) c.each.flows.items typed c.each.known n
    (subst (λ xs. IsAhead (item_shapes items) c.each.known (item_shapes xs) c.each.flows.items n) (drop_all i items c.each-test.false) (c.each.invariant.ahead n))
