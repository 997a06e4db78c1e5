-- Codes worked out.
use Rattle.std.proofs.Common.{refl}
use Rattle.tsa_mean.proofs.RunExamples.{turned}
use Rattle.tsa_lower_code.specs.Examples.{CodeIsAsWritten}

pub code_is_as_written : CodeIsAsWritten
unfolding turned
code_is_as_written = record {
  early = refl;
  assignment = refl;
  high = refl;
  lock = refl;
  body = refl;
  question = refl;
  behind_it = refl;
  both_sides = refl;
  left_side_alone = refl;
  right_side_traps = refl;
  old_value = refl;
  no_element = refl;
}
