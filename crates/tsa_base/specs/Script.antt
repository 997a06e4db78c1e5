-- A source and a sink in memory, with everything that their calls need, and what one call makes of it.
use Rattle.std.specs.Prelude.{ℕ, ◌++◌, List, drop, take}
use Rattle.tsa_base.specs.Causes.{one_more}

-- what is left, the most bytes of a pull, the pulls that fail, how many were made, and how many failed
pub record SourceScript : Type 0 where
  pub left : List ℕ
  pub width : ℕ
  pub failing : List ℕ
  pub pulls : ℕ
  pub faults : ℕ

-- after a pull of so many bytes
abbrev pub pulled : SourceScript → ℕ → SourceScript
pulled s n = record s { left = drop n s.left; pulls = one_more s.pulls }

-- after a pull that failed
abbrev pub pull_failed : SourceScript → SourceScript
pull_failed s = record s { pulls = one_more s.pulls; faults = one_more s.faults }

-- what was taken, the most bytes of a push, the pushes that fail, how many were made, and how many failed
pub record SinkScript : Type 0 where
  pub taken : List ℕ
  pub width : ℕ
  pub failing : List ℕ
  pub pushes : ℕ
  pub faults : ℕ

-- after a push of so many bytes of a piece
abbrev pub pushed : SinkScript → List ℕ → ℕ → SinkScript
pushed s piece n = record s { taken = s.taken ++ take n piece; pushes = one_more s.pushes }

-- after a push that failed
abbrev pub push_failed : SinkScript → SinkScript
push_failed s = record s { pushes = one_more s.pushes; faults = one_more s.faults }

-- after a push for which there was no memory
abbrev pub push_unstored : SinkScript → SinkScript
push_unstored s = record s { pushes = one_more s.pushes }
