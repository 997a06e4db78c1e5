-- Exits of blocks, by the edges into the first points of the blocks of a graph.
use Rattle.std.specs.Prelude.{ℕ, ◌≡◌, ◌<◌, ◌↔◌, ◌⊎◌, List, [], Contains, length, Some, slice_get, slice_index_or}
use Rattle.tsa_graph.specs.declared.sequence.Exit.{Exit}
use Rattle.tsa_graph.specs.declared.sequence.Place.{Place}
use Rattle.tsa_graph.specs.declared.blocks.GraphBlock.{GraphBlock}
use Rattle.tsa_graph.specs.declared.entries.Edge.{Edge}

-- the block in which a point stands
abbrev pub block_at : List Place → (point : ℕ) → ℕ
block_at places p = (slice_index_or places p (record { block = 0; index = 0 })).block

-- an edge into a block as an exit of another
abbrev pub exit_by : Edge → (to : ℕ) → Exit
exit_by e to = record { outcome = e.outcome; to = to }

-- an exit of a block is one of these edges into another
pub record ComesFrom (places : List Place) (into : List Edge) (to block : ℕ) (x : Exit) : Type 0 where
  pub edge : Edge
  pub is_one : Contains into edge
  pub from : block_at places edge.from ≡ block
  pub is_exit : exit_by edge to ≡ x

-- the edges into a block, by its number, are exits beside those before
pub record AreNoted (places : List Place) (into : List Edge) (to : ℕ) (old new : List (List Exit)) : Type 0 where
  pub size : length new ≡ length old
  pub each : (b : ℕ) (x : Exit) → Contains (slice_index_or new b []) x ↔ (Contains (slice_index_or old b []) x ⊎ ComesFrom places into to b x)

-- an exit of a block is an edge into one of the first blocks
pub record IsExit (blocks : List GraphBlock) (places : List Place) (first block : ℕ) (x : Exit) : Type 0 where
  pub to : GraphBlock
  pub within : x.to < first
  pub is_there : slice_get blocks x.to ≡ Some to
  pub comes : ComesFrom places to.into.items x.to block x

-- the exits of each block to the first ones
pub record AreExits (blocks : List GraphBlock) (places : List Place) (first : ℕ) (exits : List (List Exit)) : Type 0 where
  pub size : length exits ≡ length blocks
  pub each : (b : ℕ) (x : Exit) → Contains (slice_index_or exits b []) x ↔ IsExit blocks places first b x
