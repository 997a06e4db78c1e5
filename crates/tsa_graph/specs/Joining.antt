-- Blocks of a graph with their exits.
use Rattle.std.specs.Prelude.{◌≡◌, List, [], ◌∷◌}
use Rattle.tsa_graph.specs.declared.sequence.Block.{Block}
use Rattle.tsa_graph.specs.declared.sequence.Exit.{Exit}
use Rattle.tsa_graph.specs.declared.blocks.GraphBlock as graph

pub record IsJoined (b : graph.GraphBlock) (exits : List Exit) (r : Block) : Type 0 where
  pub points : r.points.items ≡ b.points.items
  pub inner : r.inner.items ≡ b.inner.items
  pub exits_are : r.exits.items ≡ exits

abbrev pub AreJoined : List graph.GraphBlock → List (List Exit) → List Block → Type 0
AreJoined [] [] [] = Unit {0}
AreJoined (b ∷ bs) (x ∷ xs) (r ∷ rs) = IsJoined b x r × AreJoined bs xs rs
AreJoined _ _ _ = ⊥
