use Rattle.std.proofs.Common.{◌∙◌, map, sym, ap, subst}
use Rattle.std.proofs.lemmas.Result.{IfOk-weaker}
use Rattle.tsa_tree.specs.statements.Shapes.{stmt_shapes}
use Rattle.tsa_graph_edges.specs.Links.{edge_of}
use Rattle.tsa_graph.specs.InnerEdges.{AreBetween}
use Rattle.tsa_graph.proofs.GraphMade.{graph_moved}
use Rattle.tsa_graph.proofs.Within.{body_between}
use Rattle.tsa_graph.proofs.graph.graph_of_body.Goals as goal

pub graph_of_links-requires : goal.graph_of_links-requires
graph_of_links-requires c =
    let body = c.args.body in
    subst (λ n. AreBetween n (map edge_of c.deref.result.now)) (sym body.all)
    (subst (AreBetween _) (sym (ap (map edge_of) c.deref.ensures.value ∙ c.in_ok-links.ensures)) (body_between c.args.scope.now (stmt_shapes body.statements.now)))

pub returns : goal.returns
returns c =
    IfOk-weaker c.graph_of_links.result _ _
    (λ g h. graph_moved c.args.body.points _ _ _ g c.args.body.all (ap (map edge_of) c.deref.ensures.value ∙ c.in_ok-links.ensures) h) c.graph_of_links.ensures
