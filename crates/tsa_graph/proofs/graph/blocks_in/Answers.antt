use Rattle.std.proofs.Common.{◌<◌, subst}
use Rattle.tsa_graph.proofs.GraphMade.{next_made}
use Rattle.tsa_graph.proofs.graph.blocks_in.Goals as goal

pub each-preserved : goal.each-preserved
each-preserved c =
    let e = c.in_ok-block_of.ensures in
    next_made c.args.ins.now c.each.blocks.items c.push.new.self.items c.args.runs.now c.each.number c.in_ok-block_of.field-0 c.at.result.now
    (subst (λ n. c.each.number < n) c.len-number-end.ensures c.each-test.true) c.at.ensures c.each.invariant (record { points = e.points; inner = e.inner; into = e.into })
    c.in_ok-push.ensures.items
