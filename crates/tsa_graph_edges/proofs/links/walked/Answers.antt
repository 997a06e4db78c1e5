use Rattle.std.proofs.Common.{arith, ◌≡◌, ◌-◌}
use Rattle.tsa_core.specs.Control.{count_all}
use Rattle.tsa_tree.specs.statements.Shapes.{stmt_shapes}
use Rattle.tsa_graph_edges.proofs.Putting.{end_put}
use Rattle.tsa_graph_edges.proofs.links.walked.Goals as goal

pub put_all-requires : goal.put_all-requires
put_all-requires c = let all = c.args.body.all in record { at = 0; ends = omega (arith, all); numbered = c.args.body.numbered }

pub returns : goal.returns
returns c =
    let all = c.args.body.all in
    let end : c.args.body.points - 1 ≡ count_all (stmt_shapes c.args.body.statements.now) = omega (arith, all) in
    end_put _ _ _ _ _ c.in_ok-put_all.ensures end end end end c.new-ahead.ensures
