use Rattle.std.proofs.Common.{◌≡◌, ◌++◌, ℕ, List, map, reverse, vec_len}
use Rattle.tsa_tree.specs.types.Scopes.{found}
use Rattle.tsa_graph_edges.specs.Marks.{label_of}
use Rattle.tsa_graph_edges.proofs.links.known_labels.Given as goal

-- what is found among the names that are known so far and then in what is left
abbrev pub invariant-each : goal.invariant-each
invariant-each l = (name : List ℕ) → found (l.names ++ reverse (map label_of l.left.items)) name ≡ found (reverse (map label_of l.fn.labels.items)) name

abbrev pub decreases-each : goal.decreases-each
decreases-each l = vec_len l.left
