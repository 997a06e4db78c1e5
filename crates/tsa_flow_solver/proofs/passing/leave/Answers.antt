use Rattle.std.proofs.Common.{◌∙◌, ◌≡◌, ◌<◌, arith, get_or, subst, sym}
use Rattle.tsa_graph.specs.Rows.{last_in, point_in}
use Rattle.tsa_flow_solver.specs.Passing.{Passes}
use Rattle.tsa_flow_solver.specs.Rows.{set_at}
use Rattle.tsa_flow_solver.proofs.Carrying.{last_point, left_of}
use Rattle.tsa_flow_solver.proofs.passing.leave.Goals as goal

pub returns-clause-each : goal.returns-clause-each
returns-clause-each g c lane are less =
    let b = c.args.block.now in
    let p = c.index-point.result.now in
    let size : c.len.result ≡ last_in b = c.len.ensures ∙ b.inner.ok.0 in
    let point : p ≡ point_in b (last_in b) = last_point b p c.requires.long (subst (λ n. p ≡ get_or b.points.items n p) size c.index-point.ensures) in
    left_of (g.L.Lanes.cases c.args.lanes.now lane) b p c.args.outcome (set_at c.args.last.now lane) (set_at c.pass_row.new.row lane) point
    (subst (λ r. Passes (g.L.Lanes.cases c.args.lanes.now lane p) c.args.outcome (set_at r lane) (set_at c.pass_row.new.row lane)) c.in_ok-row.ensures
    (c.pass_row.ensures.each lane (subst (λ q. q < g.L.Lanes.points c.args.lanes.now) (sym point) (are (last_in b) (omega arith))) less))
