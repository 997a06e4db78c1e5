use Rattle.std.proofs.Common.{◌∙◌, ◌∷◌, Err, suc, drop, sym, ap, subst}
use Rattle.std.proofs.Math.Seq.{drop-cons}
use Rattle.std.proofs.lemmas.List.{drop_all}
use Rattle.tsa_types_expressions.specs.Judgements.{Judges}
use Rattle.tsa_types.proofs.ItemNames as names
use Rattle.tsa_types.proofs.UnitLaws.{items_end, items_stop, items_next}
use Rattle.tsa_types.proofs.unit.declare_items.Goals as goal

pub returns-in-Err-clause-judged : goal.returns-in-Err-clause-judged
returns-in-Err-clause-judged c =
    subst (λ o. Judges o (Err c.in-Err.refusal)) c.each.invariant.judged
    (items_stop c.each.walk.scope c.args.items.now c.each.item-index c.item-item.result
    (drop-cons c.args.items.now c.each.item-index c.item-item.result c.each-test.true
    ∙ ap (λ x. x ∷ drop (suc c.each.item-index) c.args.items.now) (sym c.item-item.is)) c.in-Err.refusal
    c.in-Err.ensures.judged)

pub each-preserved : goal.each-preserved
each-preserved c = record {
  judged =
      items_next c.each.walk.scope c.args.items.now c.each.item-index c.item-item.result
      (drop-cons c.args.items.now c.each.item-index c.item-item.result c.each-test.true
      ∙ ap (λ x. x ∷ drop (suc c.each.item-index) c.args.items.now) (sym c.item-item.is)) c.declare_item.new.walk.scope
      c.in_default.ensures.judged c.in_default.ensures.behind
      ∙ c.each.invariant.judged;
  nodes =
      names.items_next c.each.walk.row c.each.walk.scope c.args.items.now c.each.item-index c.item-item.result
      (drop-cons c.args.items.now c.each.item-index c.item-item.result c.each-test.true
      ∙ ap (λ x. x ∷ drop (suc c.each.item-index) c.args.items.now) (sym c.item-item.is)) c.declare_item.new.walk.scope c.declare_item.new.walk.row
      c.in_default.ensures.behind c.in_default.ensures.nodes
      ∙ c.each.invariant.nodes;
}

pub returns-clause-judged : goal.returns-clause-judged
returns-clause-judged c =
    sym c.each.invariant.judged ∙ items_end c.each.walk.scope c.args.items.now c.each.item-index (drop_all c.each.item-index c.args.items.now c.each-test.false)

pub returns-clause-nodes : goal.returns-clause-nodes
returns-clause-nodes c =
    sym (names.items_end c.each.walk.row c.each.walk.scope c.args.items.now c.each.item-index (drop_all c.each.item-index c.args.items.now c.each-test.false))
    ∙ c.each.invariant.nodes
