use Rattle.std.proofs.Common.{◌∙◌, ◌++◌, map, reverse, sym, ap}
use Rattle.tsa_tree.specs.types.Scopes.{found}
use Rattle.tsa_graph_edges.specs.Marks.{label_of}
use Rattle.tsa_graph_edges.proofs.LabelLists.{next_label}
use Rattle.tsa_graph_edges.proofs.LastFirst.{labels}
use Rattle.tsa_graph_edges.proofs.links.known_labels.Goals as goal

pub each-preserved : goal.each-preserved
each-preserved c = λ name.
    let rest = reverse (map label_of c.pop.new.self.items) in
    next_label c.each.names c.declare.new.self rest c.in-Some.label.name.now c.in-Some.label.first c.in_ok-declare.field-0 c.in_ok-declare.ensures.fresh
    c.in_ok-declare.ensures.added c.in_ok-declare.ensures.kept name
    ∙ sym (ap (λ xs. found (c.each.names ++ xs) name) (labels c.pop.new.self.items c.each.left.items c.in-Some.label c.in-Some.ensures.items)) ∙ c.each.invariant name
