-- Edges of code as edges of control.
use Rattle.tsa_core.specs.Control as control
use Rattle.tsa_core.specs.Control.{Edge, edge}
use Rattle.tsa_graph_edges.specs.declared.link.Link.{Link}
use Rattle.tsa_graph_edges.specs.declared.link.Outcome.{Outcome}
use Rattle.tsa_graph_edges.specs.declared.link.Outcome.TheVariants as code

abbrev pub outcome_of : Outcome → control.Outcome
outcome_of code.Next = control.Next
outcome_of code.Yes = control.Yes
outcome_of code.No = control.No
outcome_of (code.Chosen z) = control.Chosen z
outcome_of code.Rest = control.Rest

abbrev pub edge_of : Link → Edge
edge_of l = edge l.from (outcome_of l.outcome) l.to
