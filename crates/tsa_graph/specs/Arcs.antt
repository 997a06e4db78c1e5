-- The edges of each point as they are kept: whether one leaves it alone, and which lead to it.
use Rattle.std.specs.Prelude.{ℕ, ◌≡◌, ◌<◌, ◌≤◌, nat_eq, List, [], ◌∷◌, map, length, slice_index_or, Option, Some, None, if◌then◌else◌}
use Rattle.tsa_core.specs.Control as control
use Rattle.tsa_core.specs.Control.{edge}
use Rattle.tsa_graph_edges.specs.Links.{outcome_of}
use Rattle.tsa_graph.specs.declared.entries.Edge.{Edge}
use Rattle.tsa_graph.specs.declared.arcs.Exit.{Exit}
use Rattle.tsa_graph.specs.declared.arcs.Exit.TheVariants.{Nowhere, To, Many}
use Rattle.tsa_graph.specs.Edges.{edges_from, edges_into}

abbrev pub exit_of : List control.Edge → Exit
exit_of [] = Nowhere
exit_of (e ∷ []) = To e.to
exit_of (e ∷ f ∷ es) = Many

abbrev pub more : Exit → ℕ → Exit
more Nowhere to = To to
more (To other) to = Many
more Many to = Many

-- an edge into a point
abbrev pub entry_of : ℕ → Edge → control.Edge
entry_of q e = edge e.from (outcome_of e.outcome) q

-- the edges of so many points, and no others
pub record AreArcs (n : ℕ) (es : List control.Edge) (outs : List Exit) (ins : List (List Edge)) : Type 0 where
  pub outs_size : length outs ≡ n
  pub ins_size : length ins ≡ n
  pub exits : (p : ℕ) → p < n → slice_index_or outs p Nowhere ≡ exit_of (edges_from p es)
  pub entries : (q : ℕ) → q < n → map (entry_of q) (slice_index_or ins q []) ≡ edges_into q es
  pub froms : (p : ℕ) → n ≤ p → edges_from p es ≡ []
  pub intos : (q : ℕ) → n ≤ q → edges_into q es ≡ []

-- where a point leads alone to one that is led to alone, and back
abbrev pub to_one : List Edge → ℕ → Option ℕ
to_one [] q = None
to_one (e ∷ []) q = if nat_eq q 0 then None else Some q
to_one (e ∷ f ∷ es) q = None

abbrev pub next_by : List (List Edge) → Exit → Option ℕ
next_by ins Nowhere = None
next_by ins (To q) = to_one (slice_index_or ins q []) q
next_by ins Many = None

abbrev pub next_in : List Exit → List (List Edge) → ℕ → Option ℕ
next_in outs ins p = next_by ins (slice_index_or outs p Nowhere)

abbrev pub back_by : Exit → ℕ → Option ℕ
back_by (To q) p = Some p
back_by Nowhere p = None
back_by Many p = None

abbrev pub from_one : List Exit → List Edge → Option ℕ
from_one outs [] = None
from_one outs (e ∷ []) = back_by (slice_index_or outs e.from Nowhere) e.from
from_one outs (e ∷ f ∷ es) = None

abbrev pub back_in : List Exit → List (List Edge) → ℕ → Option ℕ
back_in outs ins q = if nat_eq q 0 then None else from_one outs (slice_index_or ins q [])
