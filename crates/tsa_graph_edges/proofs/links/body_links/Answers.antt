use Rattle.tsa_graph_edges.proofs.Putting.{body_at_once, body_is}
use Rattle.tsa_graph_edges.proofs.links.body_links.Goals as goal

pub returns-then-has_no_labels : goal.returns-then-has_no_labels
returns-then-has_no_labels c =
    body_at_once _ _ _ _ _ c.new-none.ensures c.in_ok-found.ensures (c.has_no_labels.ensures.0 c.if-has_no_labels.true) c.into_links.ensures

pub returns : goal.returns
returns c =
    body_is _ _ _ _ _ _ _ _ c.in_ok-found.ensures c.in_ok-labels.ensures c.into_labels.ensures c.in_ok-ahead.ensures c.into_links-2.ensures
