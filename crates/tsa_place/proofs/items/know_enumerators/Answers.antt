use mir.Syntax.{w32}
use mir.Val.{to_z, of_z}
use Rattle.std.proofs.Common.{◌≡◌, ◌∙◌, rules, sym}
use Rattle.std.proofs.Math.Seq.{drop-cons}
use Rattle.std.proofs.lemmas.List.{drop_all}
use Rattle.tsa_place.proofs.EnumeratorLists.{known_end, known_next}
use Rattle.tsa_place.proofs.items.know_enumerators.Goals as goal

pub each-preserved : goal.each-preserved
each-preserved c =
    let z = c.in_ok-know_enumerator.field-0 in
    let same : to_z w32 (of_z w32 z) ≡ z = search rules in
    record {
      behind =
          known_next c.args.values.now c.each.enumerator-index c.each.scope c.each.last _ (drop-cons c.args.values.now c.each.enumerator-index _ c.each-test.true) _ z
          c.know_enumerator.new.scope same c.in_ok-know_enumerator.ensures.worth c.in_ok-know_enumerator.ensures.known
          ∙ c.each.invariant.behind;
    }

pub returns : goal.returns
returns c =
    sym (known_end c.args.values.now c.each.enumerator-index c.each.scope c.each.last (drop_all c.each.enumerator-index c.args.values.now c.each-test.false))
    ∙ c.each.invariant.behind
