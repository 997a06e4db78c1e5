-- The control of a body as blocks: longest runs of points, each of which leads to the next one alone.
use Rattle.std.specs.Prelude.{ℕ, ◌≡◌, nat_lt, List, [], ◌∷◌, map}
use Rattle.tsa_core.specs.Control as control
use Rattle.tsa_graph_edges.specs.declared.link.Outcome.{Outcome}
use Rattle.tsa_graph_edges.specs.Links.{outcome_of}
use Rattle.tsa_graph.specs.Runs.{first_of, last_of, bit, times_in}
use Rattle.tsa_graph.specs.declared.blocks.GraphBlock.{GraphBlock}
use Rattle.tsa_graph.specs.declared.blocks.Graph.{Graph}
use Rattle.tsa_graph.specs.Arcs.{entry_of}
use Rattle.tsa_graph.specs.Edges.{edges_into, IsStep}

-- each point but the last has exactly one edge, to the next, and each point but the first exactly one edge into it, of these outcomes
abbrev pub IsRun : List control.Edge → List ℕ → List Outcome → Type 0
IsRun es [] os = ⊥
IsRun es (p ∷ []) [] = Unit {0}
IsRun es (p ∷ []) (o ∷ os) = ⊥
IsRun es (p ∷ q ∷ ps) [] = ⊥
IsRun es (p ∷ q ∷ ps) (o ∷ os) = IsStep es p (outcome_of o) q × IsRun es (q ∷ ps) os

-- A block is a run that can't go on: its last point leads alone to no point but its own first one. The other edges are those into its first
-- point, in their order.
pub record IsBlock (es : List control.Edge) (b : GraphBlock) : Type 0 where
  pub run : IsRun es b.points.items b.inner.items
  pub longest : (o : control.Outcome) (q : ℕ) → IsStep es (last_of b.points.items) o q → q ≡ first_of b.points.items
  pub into : map (entry_of (first_of b.points.items)) b.into.items ≡ edges_into (first_of b.points.items) es

abbrev pub AreBlocks : List control.Edge → List GraphBlock → Type 0
AreBlocks es [] = Unit {0}
AreBlocks es (b ∷ bs) = IsBlock es b × AreBlocks es bs

-- the points of blocks
abbrev pub points_in : List GraphBlock → List (List ℕ)
points_in [] = []
points_in (b ∷ bs) = b.points.items ∷ points_in bs

-- A graph of so many points with these edges: its blocks are runs that can't go on, and each point stands in exactly one of them, so that
-- none can begin earlier either.
pub record IsGraph (n : ℕ) (es : List control.Edge) (g : Graph) : Type 0 where
  pub blocks : AreBlocks es g.blocks.items
  pub all : (p : ℕ) → times_in p (points_in g.blocks.items) ≡ bit (nat_lt p n)
