-- What is noted at a case and at a label.
use Rattle.std.specs.Prelude.{ℕ, ℤ, List, Option}
use Rattle.tsa_graph_edges.specs.declared.successors.Case.{Case}
use Rattle.tsa_graph_edges.specs.declared.successors.Label.{Label}

abbrev pub case_of : Case → Option ℤ × ℕ
case_of c = (c.value, c.first)

abbrev pub label_of : Label → List ℕ × ℕ
label_of l = (l.name.now, l.first)
