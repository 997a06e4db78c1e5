-- Steps one after another.
use Rattle.std.specs.Prelude.{List, ◌++◌}
use Rattle.tsa_place_model.specs.Ways.{Way}
use Rattle.tsa_place_model.specs.declared.path.PathStep.{PathStep}

-- a way with further steps
abbrev pub joined : Way → List PathStep → Way
joined w steps = record { root = w.root; steps = w.steps ++ steps }
