-- The texts in which there is a choice, worked out.
use Rattle.std.proofs.Common.{refl}
use Rattle.tsa_tree.specs.types.FirstFailing.{first_failing}
use Rattle.tsa_tree.specs.types.PlaceExamples.{PlacesAreTold}
use Rattle.tsa_tree.specs.types.Texts.{told_in}
use Rattle.tsa_tree.proofs.types.TextValues.{computed}

-- each by its first failing node
pub places_are_told : PlacesAreTold (told_in first_failing)
unfolding computed
places_are_told = record {
  declaration_before_its_tag = refl;
  type_before_its_length = refl;
  tag_before_the_length = refl;
  node_before_its_parts = refl;
  operand_by_operand = refl;
  smaller_code_first = refl;
  in_order_of_the_text = refl;
  argument_inside = refl;
  length_before_attributes = refl;
  attributes_before_the_initialiser = refl;
  result_before_parameters = refl;
  parameters_before_attributes = refl;
  test_of_do = refl;
  test_of_for = refl;
  not_of_a_struct = refl;
  parts_of_for = refl;
  attributes_before_members = refl;
  members_before_attributes = refl;
  aliased_struct = refl;
  alias = refl;
  parameter = refl;
  local = refl;
  member = refl;
  function_of_a_pointer = refl;
  local_initialiser = refl;
  assignment = refl;
  step = refl;
  left_side_in_parentheses = refl;
  left_side_of_a_step = refl;
  left_side_before_what_goes_there = refl;
  operator_before_the_left_side = refl;
  global_initialiser = refl;
  list_for_a_number = refl;
  number_for_a_list = refl;
  operand_in_an_initialiser = refl;
  known_in_its_length = refl;
  known_in_its_attribute = refl;
  known_in_its_initialiser = refl;
  alias_in_its_braces = refl;
  struct_alias_in_its_braces = refl;
  member_of_null = refl;
  void_by_an_alias = refl;
  void_parameter_by_an_alias = refl;
  struct_result_is_no_value = refl;
  const_is_no_part = refl;
  void_alias = refl;
  any_type_as_a_statement = refl;
  struct_parameter = refl;
}
