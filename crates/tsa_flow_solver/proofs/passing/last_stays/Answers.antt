use Rattle.std.proofs.Common.{◌∙◌, ◌≡◌, ◌<◌, arith, get_or, subst, sym}
use Rattle.tsa_graph.specs.Rows.{last_in, point_in}
use Rattle.tsa_flow_solver.specs.Rows.{set_at}
use Rattle.tsa_flow_solver.proofs.Carrying.{last_point, left_of}
use Rattle.tsa_flow_solver.proofs.passing.last_stays.Goals as goal

pub returns : goal.returns
returns g c still lane outcome are less =
    let b = c.args.block.now in
    let p = c.index.result.now in
    let size : c.len.result ≡ last_in b = c.len.ensures ∙ b.inner.ok.0 in
    let point : p ≡ point_in b (last_in b) = last_point b p c.requires (subst (λ n. p ≡ get_or b.points.items n p) size c.index.ensures) in
    let set = set_at c.args.last.now lane in
    left_of (g.L.Lanes.cases c.args.lanes.now lane) b p outcome set set point
    (c.stays.ensures still lane outcome (subst (λ q. q < g.L.Lanes.points c.args.lanes.now) (sym point) (are (last_in b) (omega arith))) less)
