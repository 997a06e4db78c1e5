-- What expressions are worth, worked out.
use Rattle.std.proofs.Common.{refl}
use Rattle.tsa_core.proofs.BodyExamples.{worked}
use Rattle.tsa_path.specs.ValueExamples.{ValuesAreAsWritten}

pub values_are_as_written : ValuesAreAsWritten
unfolding worked
values_are_as_written = record {
  of_a_member = refl;
  of_an_element = refl;
  out_of_range = refl;
  before_the_first = refl;
  behind_a_pointer = refl;
  behind_null = refl;
  behind_a_local = refl;
  of_an_address = refl;
  of_a_target = refl;
  of_a_null_target = refl;
  of_a_null_pointer = refl;
  same_place = refl;
  no_null = refl;
  other_place = refl;
  of_not = refl;
  negated = refl;
  in_unsigned = refl;
  no_divisor = refl;
  too_great = refl;
  and_stops = refl;
  or_stops = refl;
  and_goes_on = refl;
  of_a_call = refl;
}
