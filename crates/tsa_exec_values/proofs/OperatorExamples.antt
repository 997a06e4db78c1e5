-- Conversions and operators worked out.
use Rattle.std.proofs.Common.{refl}
use Rattle.tsa_exec_values.specs.Examples.{OperatorsAreAsWritten}

pub as_written : OperatorsAreAsWritten
as_written = record {
  negative_becomes_unsigned = refl;
  great_becomes_int = refl;
  same_kind = refl;
  no_number = refl;
  sum_out_of_range = refl;
  sum_wraps = refl;
  sum_of_both = refl;
  divided_by_zero = refl;
  remainder_by_zero = refl;
  least_by_minus_one = refl;
  towards_zero = refl;
  int_is_less = refl;
  unsigned_is_not_less = refl;
  same_place = refl;
  other_place = refl;
  null_and_place = refl;
  both_null = refl;
  sum_of_pointers = refl;
  pointer_and_number = refl;
  minus_least = refl;
  minus_one = refl;
  no_bit = refl;
  not_null = refl;
  not_three = refl;
  minus_pointer = refl;
}
