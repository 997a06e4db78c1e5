use Rattle.std.proofs.Common.{◌∙◌, ◌+◌, suc, ◌∷◌, drop, sym, ap}
use Rattle.std.proofs.Math.Seq.{drop-cons}
use Rattle.std.proofs.lemmas.List.{drop_all}
use Rattle.tsa_place_model.specs.Layouts.{capped, thing_size, size_of}
use Rattle.tsa_place_layout.proofs.Begins.{end_is, end_next, places_first, places_next, places_end}
use Rattle.tsa_place_layout.proofs.structures.Structures.begins.Goals as goal

pub each-init : goal.each-init
each-init c =
    let first = places_first (size_of c.args.self.now) c.args.members.now c.new-places.result.items c.new-places.ensures.items in
    record { end = first.0; places = first.1 }

pub each-preserved : goal.each-preserved
each-preserved c =
    let size = size_of c.args.self.now in
    let ms = c.args.members.now in
    let i = c.each.member-index in
    let m = c.member-item.result in
    let at = drop-cons ms i m c.each-test.true ∙ ap (λ x. x ∷ drop (suc i) ms) (sym c.member-item.is) in
    let sum = c.few-end.ensures ∙ ap (λ n. capped (n + c.from-in-each.result)) c.from.ensures ∙ ap (λ n. capped (c.each.end + n)) c.from-in-each.ensures in
    record {
      end = end_next size ms i c.each.end c.each.invariant.end m at c.thing_size.result c.few-end.result (c.thing_size.ensures.size ∙ ap (λ p. capped (thing_size size p.thing)) c.member.view_is) sum;
      places = places_next size ms i c.each.end c.each.invariant.end m at c.each.places.items c.push.new.self.items _ c.in_ok-push.ensures.items c.each.invariant.places;
    }

pub returns-clause-end : goal.returns-clause-end
returns-clause-end c = end_is (size_of c.args.self.now) c.args.members.now c.each.member-index c.each.end c.each.invariant.end (drop_all c.each.member-index c.args.members.now c.each-test.false)

pub returns-clause-places : goal.returns-clause-places
returns-clause-places c = places_end (size_of c.args.self.now) c.args.members.now c.each.member-index c.each.places.items _ (drop_all c.each.member-index c.args.members.now c.each-test.false) c.each.invariant.places
