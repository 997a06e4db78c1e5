-- Blocks that are made of runs, by the edges that are kept.
use Rattle.std.specs.Prelude.{ℕ, ◌≡◌, List, [], ◌∷◌, slice_index_or}
use Rattle.tsa_graph.specs.Runs.{first_of}
use Rattle.tsa_graph.specs.declared.blocks.GraphBlock.{GraphBlock}
use Rattle.tsa_graph.specs.declared.entries.Edge.{Edge}
use Rattle.tsa_graph.specs.InnerOutcomes.{inner_of}

pub record IsMade (ins : List (List Edge)) (b : GraphBlock) (run : List ℕ) : Type 0 where
  pub points : b.points.items ≡ run
  pub inner : b.inner.items ≡ inner_of ins run
  pub into : b.into.items ≡ slice_index_or ins (first_of run) []

abbrev pub AreMade : List (List Edge) → List GraphBlock → List (List ℕ) → Type 0
AreMade ins [] [] = Unit {0}
AreMade ins [] (run ∷ runs) = ⊥
AreMade ins (b ∷ bs) [] = ⊥
AreMade ins (b ∷ bs) (run ∷ runs) = IsMade ins b run × AreMade ins bs runs
