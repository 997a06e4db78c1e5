use Rattle.std.proofs.Common.{◌∙◌, ◌∷◌, suc, [], drop, sym, ap, subst, Some}
use Rattle.std.proofs.Math.Seq.{drop-cons}
use Rattle.std.proofs.lemmas.List.{drop_all}
use Rattle.tsa_tree.proofs.types.UnitNodes.{premises_tell_it}
use Rattle.tsa_tree.specs.types.Premises.{first}
use Rattle.tsa_tree.specs.types.Units.{items_premises, outset}
use Rattle.tsa_tree.specs.units.Shapes.{item_shape, item_shapes}
use Rattle.tsa_profile.specs.Judging.{unit_at}
use Rattle.tsa_profile.proofs.ItemLists.{item_typed, typed_next}
use Rattle.tsa_rules_bodies.specs.Entering.{IsAt, Seeks}
use Rattle.tsa_rules_bodies.specs.Sites.{site_among, site_of}
use Rattle.tsa_rules_bodies.proofs.PointNumbers.{item_points}
use Rattle.tsa_rules_bodies.proofs.Seeking.{found_there, none_left, none_sought, nowhere, passed_on, same_sites}
use Rattle.tsa_rules_bodies.proofs.search.seek.Goals as goal

pub each-init : goal.each-init
each-init c =
    let u = unit_at c.args.ground.now in
    let items = item_shapes c.args.ground.now.items.now in
    record {
      typed = ap (λ k. first (items_premises k.here items)) c.requires.outset ∙ (sym (premises_tell_it items) ∙ c.args.ground.now.typed);
      left =
          ap (λ k. site_among u k.attributes k.here items c.args.function) c.requires.outset
          ∙ same_sites c.args.ground.now.outside.now items [] (outset items) items c.args.function;
    }

pub seek_in-requires : goal.seek_in-requires
seek_in-requires c =
    let items = c.args.ground.now.items.now in
    let i = c.each.item-index in
    let x = c.item-item.result in
    let at_i = drop-cons items i x c.each-test.true ∙ ap (λ y. y ∷ drop (suc i) items) (sym c.item-item.is) in
    record {
      typed = item_typed c.each.known.here items i x at_i c.each.invariant.typed;
      points = item_points items i x (drop (suc i) items) at_i c.requires.points;
    }

pub returns-in-Some : goal.returns-in-Some
returns-in-Some c =
    let u = unit_at c.args.ground.now in
    let items = c.args.ground.now.items.now in
    let i = c.each.item-index in
    let x = c.item-item.result in
    let at_i = drop-cons items i x c.each-test.true ∙ ap (λ y. y ∷ drop (suc i) items) (sym c.item-item.is) in
    let k = c.each.known in
    let there = c.seek_in.new.known in
    let sought = subst (Seeks u c.args.function k (item_shape x) there) c.in-Some.is c.in_ok-inside.ensures in
    subst (λ o. IsAt u c.args.function o there (Some c.in-Some.inside)) c.each.invariant.left (found_there u c.args.function items i k x at_i there c.in-Some.inside sought)

pub each-preserved : goal.each-preserved
each-preserved c =
    let u = unit_at c.args.ground.now in
    let items = c.args.ground.now.items.now in
    let i = c.each.item-index in
    let x = c.item-item.result in
    let at_i = drop-cons items i x c.each-test.true ∙ ap (λ y. y ∷ drop (suc i) items) (sym c.item-item.is) in
    let k = c.each.known in
    let next = c.seek_in.new.known in
    let passed = none_sought u c.args.function k (item_shape x) next c.in_ok-inside.field-0 c.in_default.not-Some c.in_ok-inside.ensures in
    record {
      typed = typed_next k.here items i x at_i next.here (ap (λ m. m.here) passed.1) c.each.invariant.typed;
      left = passed_on u c.args.function items i k x at_i next passed ∙ c.each.invariant.left;
    }

pub returns : goal.returns
returns c =
    let u = unit_at c.args.ground.now in
    let items = c.args.ground.now.items.now in
    let i = c.each.item-index in
    let k = c.each.known in
    nowhere u c.args.function (site_of (item_shapes items) c.args.function) k (sym c.each.invariant.left ∙ none_left u c.args.function items i k (drop_all i items c.each-test.false))
