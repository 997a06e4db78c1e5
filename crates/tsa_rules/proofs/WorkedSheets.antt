-- Sheets, worked out.
use Rattle.std.proofs.Common.{◌≡◌, true, List, [], ◌∷◌, refl}
use Rattle.tsa_core.proofs.BodyExamples.{worked}
use Rattle.tsa_rules.specs.Statuses.{Free, Exclusive}
use Rattle.tsa_rules.specs.Sheets.{Sheet, program_passes}
use Rattle.tsa_rules.specs.Texts.{global}
use Rattle.tsa_rules.specs.KeptLaws.{pointed, each_alone, locked_write, AcceptedFunctionsHaveSheets, ALockedWriteIsAccepted}
use Rattle.tsa_rules.proofs.KeptPrograms.{programs_that_pass_have_no_warnings}

pub accepted_functions_have_sheets : AcceptedFunctionsHaveSheets
unfolding worked
accepted_functions_have_sheets = record {
  locked = refl;
  shared = refl;
  lent = refl;
  released_and_taken = refl;
  tried_in_a_loop = refl;
  tried_into_a_variable = refl;
  tried_in_vain = refl;
  taken_again = refl;
  in_a_loop = refl;
  a_try_with_a_body = refl;
  a_try_of_two = refl;
  a_call_of_that = refl;
  a_transfer = refl;
  left_held = refl;
  not_along = refl;
  by_another_answer = refl;
}

-- a sheet for each function of the unit that writes under its lock
sheets : List Sheet
sheets =
    record { paths = pointed 0 ∷ []; points = each_alone (Free ∷ []) }
    ∷ record { paths = pointed 0 ∷ []; points = each_alone (Exclusive 1 ∷ []) }
    ∷ record { paths = global 0 ∷ []; points = each_alone (Free ∷ Exclusive 1 ∷ Exclusive 1 ∷ Free ∷ []) }
    ∷ []

passed : program_passes locked_write sheets ≡ true
unfolding worked sheets
passed = refl

pub a_locked_write_is_accepted : ALockedWriteIsAccepted
a_locked_write_is_accepted = programs_that_pass_have_no_warnings locked_write sheets passed
