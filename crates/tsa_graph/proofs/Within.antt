-- Edges of bodies stay inside them.
use Rattle.std.proofs.Common.{ℕ, ◌+◌, ◌<◌, arith, List, map, length, get_or, sym, subst}
use Rattle.std.proofs.lemmas.List.Elements.{All-get_or, All-weaker}
use Rattle.std.proofs.lemmas.List.{length-map}
use Rattle.tsa_core.proofs.EdgesInside.{edges_stay_inside}
use Rattle.tsa_core.specs.Control.{body_edges, count_all}
use Rattle.tsa_core.specs.Laws.{IsInside}
use Rattle.tsa_graph_edges.specs.declared.link.Link.{Link}
use Rattle.tsa_graph_edges.specs.Links.{edge_of}
use Rattle.tsa_graph.specs.InnerEdges.{AreBetween}
use Rattle.tsa_graph.proofs.EntryLists.{map_get}
use Rattle.tsa_tree.specs.declared.kind.Kind.TheVariants.{Void}
use Rattle.tsa_tree.specs.statements.Syntax.{Statements}
use Rattle.tsa_tree.specs.types.Scopes.{Scope}

-- an edge among others
pub link_between : (n : ℕ) (links : List Link) (i : ℕ) (d : Link) → i < length links → AreBetween n (map edge_of links)
    → ((get_or links i d).from < n) × ((get_or links i d).to < n)
link_between n links i d within h =
    let l = length-map links edge_of in
    let is = map_get edge_of links i d (edge_of d) within in
    subst (λ e. (e.from < n) × (e.to < n)) (sym is)
    (All-get_or (λ e. (e.from < n) × (e.to < n)) (map edge_of links) i (edge_of d) (omega (arith, within, l)) h)

-- those of a body, of which the end is a point too
pub body_between : (here : Scope) (body : Statements) → AreBetween (count_all body + 1) (body_edges here body)
body_between here body =
    All-weaker (IsInside (count_all body)) (λ e. (e.from < count_all body + 1) × (e.to < count_all body + 1)) (λ e x. (omega (arith, x.0), omega (arith, x.1)))
    (body_edges here body) (edges_stay_inside here Void body)
