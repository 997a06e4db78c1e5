-- The outcomes inside a run, by the edges that are kept.
use Rattle.std.specs.Prelude.{ℕ, List, [], ◌∷◌, map, slice_index_or}
use Rattle.tsa_graph_edges.specs.declared.link.Outcome.{Outcome}
use Rattle.tsa_graph_edges.specs.declared.link.Outcome.TheVariants.{Next}
use Rattle.tsa_graph.specs.declared.entries.Edge.{Edge}

abbrev pub outcome_of_one : List Edge → Outcome
outcome_of_one [] = Next
outcome_of_one (e ∷ []) = e.outcome
outcome_of_one (e ∷ f ∷ es) = Next

abbrev pub inner_of : List (List Edge) → List ℕ → List Outcome
inner_of ins [] = []
inner_of ins (p ∷ ps) = map (λ q. outcome_of_one (slice_index_or ins q [])) ps
