-- Places at which points stand in the blocks of a graph.
use Rattle.std.specs.Prelude.{ℕ, ◌≡◌, ◌<◌, ◌≤◌, List, All, length, Some, slice_get, slice_index_or}
use Rattle.tsa_graph.specs.declared.sequence.Place.{Place}
use Rattle.tsa_graph.specs.declared.blocks.GraphBlock.{GraphBlock}

-- no more blocks than points, nor more points in a block, and each of them inside
pub record AreSmall (n : ℕ) (blocks : List GraphBlock) : Type 0 where
  pub count : length blocks ≤ n
  pub counts : All (λ b. length b.points.items ≤ n) blocks
  pub inside : All (λ b. All (λ p. p < n) b.points.items) blocks

-- a point stands at its place
pub record IsPlaced (blocks : List GraphBlock) (places : List Place) (p : ℕ) : Type 0 where
  pub at : Place
  pub is_at : slice_get places p ≡ Some at
  pub block : GraphBlock
  pub is_there : slice_get blocks at.block ≡ Some block
  pub within : at.index < length block.points.items
  pub point_is : slice_index_or block.points.items at.index 0 ≡ p

-- What stands at its place still does, and so do some of the points of a block, by its number.
pub record ArePut (number : ℕ) (points some : List ℕ) (old new : List Place) : Type 0 where
  pub size : length new ≡ length old
  pub kept : (blocks : List GraphBlock) (b : GraphBlock) → slice_get blocks number ≡ Some b → b.points.items ≡ points → (p : ℕ) → IsPlaced blocks old p → IsPlaced blocks new p
  pub put : (blocks : List GraphBlock) (b : GraphBlock) → slice_get blocks number ≡ Some b → b.points.items ≡ points → All (IsPlaced blocks new) some
