use Rattle.std.proofs.Common.{◌≡◌, ◌++◌, map, reverse, take}
use Rattle.tsa_core.specs.Control.{case_edges}
use Rattle.tsa_graph_edges.specs.Links.{edge_of}
use Rattle.tsa_graph_edges.specs.Marks.{case_of}
use Rattle.tsa_graph_edges.proofs.successors.put_case_links.Given as goal

abbrev pub invariant-each : goal.invariant-each
invariant-each l =
    reverse (map edge_of l.links.items) ≡ case_edges l.from (reverse (map case_of (take l.case-index l.cases))) ++ reverse (map edge_of l.fn.links.items)
