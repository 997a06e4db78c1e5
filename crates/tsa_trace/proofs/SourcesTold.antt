-- What lines are made of, where the parts are those of a unit.
use Rattle.std.proofs.Common.{◌≡◌, ◌∙◌, ℕ, List, Ok, ap, ap₂, sym}
use Rattle.tsa_tree.specs.units.Syntax.{UnitItem}
use Rattle.tsa_place_model.specs.Calls.{Layout}
use Rattle.tsa_place_model.specs.Units.{placed_in}
use Rattle.tsa_place_model.proofs.PlacedLaid.{placed_units_are_laid}
use Rattle.tsa_core.proofs.ProgramKinds.{program_layout}
use Rattle.tsa_trace.specs.EventLines.{sources_of, sources_with}
use Rattle.tsa_trace.specs.FunctionTexts.{FunctionText, function_texts}

pub sources_told : (bytes own : List ℕ) (items : List UnitItem) (functions : List FunctionText) (l : Layout) → own ≡ bytes → functions ≡ function_texts items → placed_in items ≡ Ok l
    → record { bytes = own; functions = functions; layout = l } ≡ sources_of bytes items
sources_told bytes own items functions l text named placed =
    ap₂ (λ b fs. record { bytes = b; functions = fs; layout = l }) text named ∙ ap (sources_with bytes items) (sym (program_layout items l (placed_units_are_laid items l placed)))
