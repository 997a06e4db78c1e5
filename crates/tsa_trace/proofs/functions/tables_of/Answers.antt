use Rattle.std.proofs.Common.{◌∙◌, ◌∷◌, suc, drop, sym, ap}
use Rattle.std.proofs.Math.Seq.{drop-cons}
use Rattle.std.proofs.lemmas.List.{drop_all}
use Rattle.tsa_trace.proofs.FunctionLists.{bodies_end, bodies_next, functions_end, functions_next, points_next}
use Rattle.tsa_trace.proofs.functions.tables_of.Goals as goal

pub each-preserved : goal.each-preserved
each-preserved c =
    let items = c.args.items.now in
    let i = c.each.item-index in
    let x = c.item-item.result in
    let at_i = drop-cons items i x c.each-test.true ∙ ap (λ y. y ∷ drop (suc i) items) (sym c.item-item.is) in
    record {
      points = points_next items i x at_i c.each.invariant.points;
      functions = functions_next items i x at_i c.each.tables.functions c.keep_item.new.self.functions c.in_ok-keep_item.ensures.functions ∙ c.each.invariant.functions;
      bodies = bodies_next items i x at_i c.each.tables.bodies c.keep_item.new.self.bodies c.in_ok-keep_item.ensures.bodies ∙ c.each.invariant.bodies;
    }

pub returns-clause-functions : goal.returns-clause-functions
returns-clause-functions c =
    sym (functions_end c.args.items.now c.each.item-index c.each.tables.functions (drop_all c.each.item-index c.args.items.now c.each-test.false)) ∙ c.each.invariant.functions

pub returns-clause-bodies : goal.returns-clause-bodies
returns-clause-bodies c =
    sym (bodies_end c.args.items.now c.each.item-index c.each.tables.bodies (drop_all c.each.item-index c.args.items.now c.each-test.false)) ∙ c.each.invariant.bodies
