-- The blocks of a body in a row: points that follow each other alone, how each block is left, and where each point stands.
use Rattle.std.specs.Prelude.{ℕ, ◌+◌, ◌≡◌, ◌<◌, ◌≤◌, List, All, Contains, length, Some, slice_get, slice_index_or}
use Rattle.tsa_core.specs.Control as control
use Rattle.tsa_core.specs.Control.{Edge, edge}
use Rattle.tsa_graph_edges.specs.declared.link.Outcome.TheVariants.{Next}
use Rattle.tsa_graph_edges.specs.Links.{outcome_of}
use Rattle.tsa_graph.specs.declared.sequence.Block.{Block}
use Rattle.tsa_graph.specs.declared.sequence.Blocks.{Blocks}
use Rattle.tsa_graph.specs.declared.sequence.Exit.{Exit}
use Rattle.tsa_graph.specs.declared.sequence.Place.{Place}

-- the point at a place of a block, the outcome by which it leads to the next one there, and the last place
abbrev pub point_in : Block → (index : ℕ) → ℕ
point_in b i = slice_index_or b.points.items i 0

abbrev pub outcome_in : Block → (index : ℕ) → control.Outcome
outcome_in b i = outcome_of (slice_index_or b.inner.items i Next)

abbrev pub last_in : Block → ℕ
last_in b = length b.inner.items

abbrev pub place : (block index : ℕ) → Place
place block index = record { block = block; index = index }

-- a block of a body of so many points with these edges: each of its points leads to the next one
pub record IsRun (n : ℕ) (es : List Edge) (b : Block) : Type 0 where
  pub long : length b.points.items ≡ last_in b + 1
  pub points : All (λ p. p < n) b.points.items
  pub inner : (i : ℕ) → i < last_in b → Contains es (edge (point_in b i) (outcome_in b i) (point_in b (i + 1)))

-- an exit of a block is an edge from its last point to the first one of a block
pub record LeadsOn (es : List Edge) (blocks : List Block) (b : Block) (x : Exit) : Type 0 where
  pub to : Block
  pub is_there : slice_get blocks x.to ≡ Some to
  pub leads : Contains es (edge (point_in b (last_in b)) (outcome_of x.outcome) (point_in to 0))

-- a point stands at a place
pub record StandsAt (blocks : List Block) (point : ℕ) (at : Place) : Type 0 where
  pub block : Block
  pub is_there : slice_get blocks at.block ≡ Some block
  pub index : at.index ≤ last_in block
  pub point_is : point_in block at.index ≡ point

-- an edge goes inside a block from a point to the next one, or from the last point of a block along an exit
pub data IsPassed (blocks : List Block) (places : List Place) (e : Edge) : Type 0 where
  inside : (at : Place) (b : Block) → slice_get places e.from ≡ Some at → slice_get blocks at.block ≡ Some b → at.index < last_in b
      → outcome_in b at.index ≡ e.outcome → slice_get places e.to ≡ Some (place at.block (at.index + 1)) → IsPassed blocks places e
  across : (at : Place) (b : Block) (x : Exit) → slice_get places e.from ≡ Some at → slice_get blocks at.block ≡ Some b → at.index ≡ last_in b
      → Contains b.exits.items x → outcome_of x.outcome ≡ e.outcome → slice_get places e.to ≡ Some (place x.to 0) → IsPassed blocks places e

-- The blocks of a body of so many points with these edges.
pub record AreBlocksOf (n : ℕ) (es : List Edge) (r : Blocks) : Type 0 where
  pub count : length r.places.items ≡ n
  pub runs : All (IsRun n es) r.blocks.items
  pub exits : All (λ b. All (LeadsOn es r.blocks.items b) b.exits.items) r.blocks.items
  pub stands : (p : ℕ) (at : Place) → slice_get r.places.items p ≡ Some at → StandsAt r.blocks.items p at
  -- the body is entered at the beginning of a block
  pub start : (at : Place) → slice_get r.places.items 0 ≡ Some at → at.index ≡ 0
  pub edges : All (IsPassed r.blocks.items r.places.items) es
