use Rattle.std.proofs.Common.{◌∙◌, ◌++◌, map, refl, ap}
use Rattle.tsa_trace.specs.Views.{text_of}
use Rattle.tsa_trace.specs.Tables.{texts_by}
use Rattle.tsa_trace.proofs.TableLists.{shown_all, texts_end, texts_next}
use Rattle.tsa_trace.proofs.table.Table.with_points.Goals as goal

pub each-init : goal.each-init
each-init c = record {
  told =
      ap (λ xs. map text_of xs ++ texts_by (shown_all c.into_iter-name-iterator.result) c.args.bodies.now) c.new-list.ensures.items
      ∙ ap (λ es. texts_by (shown_all es) c.args.bodies.now) (c.into_iter-name-iterator.ensures.into_iter_gives ∙ c.iter-name-items.ensures.rest)
      ∙ ap (λ table. texts_by table c.args.bodies.now) c.self.view_is;
}

pub each-preserved : goal.each-preserved
each-preserved c = record {
  told =
      texts_next c.args.bodies.now _ c.each.list.items c.each.name-iterator c.next.new.self (c.in-Some.name.now, c.in-Some.field-0-1.now) _ c.push.new.self.items c.in-Some.ensures.steps refl
      c.find.ensures c.in_ok-push.ensures.items c.each.invariant.told;
}

pub returns : goal.returns
returns c = texts_end c.args.bodies.now _ c.each.list.items c.each.name-iterator c.in-None.ensures.steps.0 c.each.invariant.told
