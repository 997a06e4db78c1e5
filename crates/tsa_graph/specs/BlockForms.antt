-- Blocks by their sizes: each has an outcome between every two of its points, and exits lead to blocks that are there.
use Rattle.std.specs.Prelude.{ℕ, ◌+◌, ◌≡◌, ◌<◌, List, All, length}
use Rattle.tsa_graph.specs.declared.sequence.Block.{Block}
use Rattle.tsa_graph.specs.declared.sequence.Place.{Place}

-- a block among so many
pub record IsFormed (blocks : ℕ) (b : Block) : Type 0 where
  pub long : length b.points.items ≡ length b.inner.items + 1
  pub exits : All (λ x. x.to < blocks) b.exits.items

pub record AreFormed (blocks : List Block) (places : List Place) : Type 0 where
  pub each : All (IsFormed (length blocks)) blocks
  pub placed : All (λ at. at.block < length blocks) places
