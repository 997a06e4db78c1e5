use Rattle.std.proofs.Common.{◌∙◌, map, ap}
use Rattle.tsa_graph_edges.specs.Links.{edge_of}
use Rattle.tsa_graph_edges.proofs.LastFirst.{all_turned}
use Rattle.tsa_graph_edges.proofs.successors.Ahead.into_links.Goals as goal

pub returns : goal.returns
returns c = ap (map edge_of) c.reverse.ensures.items ∙ all_turned edge_of c.self.inside.links.items ∙ ap (λ a. a.edges) c.self.view_is
