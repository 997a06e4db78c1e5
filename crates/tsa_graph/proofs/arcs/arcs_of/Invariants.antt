use Rattle.std.proofs.Common.{map, take}
use Rattle.tsa_graph_edges.specs.Links.{edge_of}
use Rattle.tsa_graph.specs.Arcs.{AreArcs}
use Rattle.tsa_graph.proofs.arcs.arcs_of.Given as goal

abbrev pub invariant-each : goal.invariant-each
invariant-each l = AreArcs l.points (map edge_of (take l.link-index l.links)) l.outs.items l.ins
