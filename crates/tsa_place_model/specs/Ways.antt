-- Paths to places: a root and the steps from it (C11 6.5.2, 6.5.3.2).
use Rattle.std.specs.Prelude.{List, [], ◌∷◌, ◌++◌}
pub use Rattle.tsa_place_model.specs.declared.path.Root.{Root}
pub use Rattle.tsa_place_model.specs.declared.path.Root.TheVariants.{Global, Local, Owner}
pub use Rattle.tsa_place_model.specs.declared.path.PathStep.{PathStep}
pub use Rattle.tsa_place_model.specs.declared.path.PathStep.TheVariants.{Field, Constant, Variable, Follow}

pub record Way : Type 0 where
  pub root : Root
  pub steps : List PathStep

-- the root alone, and a way with one more step
abbrev pub from : Root → Way
from root = record { root = root; steps = [] }

abbrev pub onward : PathStep → Way → Way
onward step w = record { root = w.root; steps = w.steps ++ step ∷ [] }
