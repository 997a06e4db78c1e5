use Rattle.std.proofs.Common.{◌∙◌, ◌++◌, ◌<◌, arith, ap, subst}
use Rattle.tsa_tool_held.proofs.Fronts.{any_error, appends_more}
use Rattle.tsa_tool_held.proofs.Paging.{front_at, one_point_more}
use Rattle.tsa_tool_held.proofs.held.Page.write.Goals as goal

pub returns-in_err-write_point-clause-front : goal.returns-in_err-write_point-clause-front
returns-in_err-write_point-clause-front g c = any_error c.from_residual.result _ (λ a is lines held.
    let rows = c.rows-point-end.ensures ∙ ap (λ m. m.count) c.marks.ensures ∙ ap (λ v. v.notes.marks.count) c.view.ensures ∙ is.flow.view.rows ∙ is.count in
    let less = subst (λ n. c.each.point < n) rows c.each-test.true in
    let before = c.each.invariant.written a is in
    front_at c.args.self.now.starts.now a c.args.self.now.order.now is.order c.each.point less (g.O.Sink.taken c.args.out.now) (g.O.Sink.taken c.each.out) (g.O.Sink.taken c.write_point.new.out)
    before.0 lines before.1.0 before.1.1 (c.in_err-write_point.ensures.front a is less) held)

pub each-preserved : goal.each-preserved
each-preserved g c = record {
  later = omega (arith, c.each.invariant.later, c.write_point.ensures.later);
  written = λ a is.
      let rows = c.rows-point-end.ensures ∙ ap (λ m. m.count) c.marks.ensures ∙ ap (λ v. v.notes.marks.count) c.view.ensures ∙ is.flow.view.rows ∙ is.count in
      let less = subst (λ n. c.each.point < n) rows c.each-test.true in
      let before = c.each.invariant.written a is in
      let now = c.in_ok-write_point.ensures.all a is less in (
        before.0 ++ now.0,
        (
          one_point_more c.args.self.now.starts.now a c.args.self.now.order.now is.order c.each.point before.0 now.0 before.1.0 now.1.0,
          appends_more (g.O.Sink.taken c.args.out.now) (g.O.Sink.taken c.each.out) (g.O.Sink.taken c.write_point.new.out) before.0 now.0 before.1.1 now.1.1,
        ),
      );
}
