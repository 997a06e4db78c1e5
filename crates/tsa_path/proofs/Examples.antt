-- Paths in callers and texts of paths, worked out.
use Rattle.std.proofs.Common.{refl}
use Rattle.tsa_path.specs.Examples.{SubstitutionsAreAsWritten, TextsAreAsWritten}

pub substitutions_are_as_written : SubstitutionsAreAsWritten
substitutions_are_as_written = record {
  address_of_a_global = refl;
  address_of_an_element = refl;
  pointer_variable = refl;
  place_behind_a_variable = refl;
  member_behind_a_variable = refl;
  pointer_that_never_changes = refl;
  of_the_owner = refl;
  pointer_without_a_path = refl;
  number_that_is_followed = refl;
  no_argument = refl;
  constant_index = refl;
  another_constant_index = refl;
  index_variable = refl;
  index_without_a_path = refl;
  pointer_that_is_an_index = refl;
  in_each_position = refl;
  turned_round = refl;
  no_parameter = refl;
  kept_owner = refl;
  parameter_alone = refl;
}

pub texts_are_as_written : TextsAreAsWritten
texts_are_as_written = record {
  name = refl;
  pointer = refl;
  arrow = refl;
  member = refl;
  variable_index = refl;
  constant_index = refl;
  member_behind_a_member = refl;
  pointer_in_a_member = refl;
  two_arrows = refl;
  pointer_behind_a_pointer = refl;
  own_member = refl;
  own_pointer = refl;
}
