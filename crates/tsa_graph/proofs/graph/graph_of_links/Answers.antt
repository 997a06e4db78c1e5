use Rattle.std.proofs.Common.{sym, subst}
use Rattle.tsa_graph.specs.Runs.{AreWays}
use Rattle.tsa_graph.proofs.GraphMade.{is_graph}
use Rattle.tsa_graph.proofs.WaysMade.{are_ways}
use Rattle.tsa_graph.proofs.graph.graph_of_links.Goals as goal

pub longest_runs-requires-clause-ways : goal.longest_runs-requires-clause-ways
longest_runs-requires-clause-ways c =
    let arcs = c.in_ok-arcs.arcs in
    subst (λ xs. AreWays xs c.deref-2.result.now) (sym c.deref.ensures.value)
    (subst (λ ys. AreWays c.in_ok-next.next.items ys) (sym c.deref-2.ensures.value)
    (are_ways c.args.points _ arcs.outs.items arcs.ins c.in_ok-arcs.ensures c.in_ok-next.next.items c.in_ok-back.back.items c.in_ok-next.ensures.len c.in_ok-back.ensures.len
    c.in_ok-next.ensures.each c.in_ok-back.ensures.each))

pub returns : goal.returns
returns c =
    let arcs = c.in_ok-arcs.arcs in
    is_graph c.args.points _ arcs.outs.items arcs.ins c.in_ok-next.next.items c.deref.result.now c.in_ok-runs.runs _ c.in_ok-arcs.ensures c.in_ok-next.ensures.len
    c.in_ok-next.ensures.each c.deref.ensures.value c.in_ok-runs.ensures.longest c.in_ok-runs.ensures.once c.in_ok-blocks.ensures
