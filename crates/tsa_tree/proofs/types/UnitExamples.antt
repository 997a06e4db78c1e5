-- The units, worked out.
use Rattle.std.proofs.Common.{◌≡◌, refl, subst}
use mathlib.Core.Path.{fun_ext}
use Rattle.tsa_tree.specs.types.FirstFailing.{first_failing}
use Rattle.tsa_tree.specs.types.PlaceExamples.{PlacesAreTold}
use Rattle.tsa_tree.specs.types.Texts.{told_in}
use Rattle.tsa_tree.specs.types.UnitExamples.{UnknownNames, DeclaredTwice, WrongTypes, WrongCounts, NotAssignable, OutOfPlace}
use Rattle.tsa_tree.specs.types.UnitExamples.{WithoutTarget, WrongReturns, NotConstant, TypedTexts, TextsAreTold, UnitsAreTyped}
use Rattle.tsa_tree.specs.types.Units.{refusal_of_types}
use Rattle.tsa_tree.proofs.types.TextValues.{computed}
use Rattle.tsa_tree.proofs.types.PlaceExamples.{places_are_told}
use Rattle.tsa_tree.proofs.types.UnitNodes.{premises_tell_it}

-- those of TY1
unknown_told : UnknownNames (told_in first_failing)
unfolding computed
unknown_told = record {
  unknown_name = refl;
  unknown_callee = refl;
  unknown_tag = refl;
  unknown_enum = refl;
  unknown_member = refl;
  in_its_own_value = refl;
  in_its_own_initialiser = refl;
  behind_its_block = refl;
  behind_its_for = refl;
  later_member = refl;
  other_functions_parameter = refl;
}

-- those of TY2
again_told : DeclaredTwice (told_in first_failing)
unfolding computed
again_told = record {
  declared_again = refl;
  hidden = refl;
  hidden_by_a_parameter = refl;
  member_again = refl;
  its_own_enumerator = refl;
  enumerator_again = refl;
  tag_again = refl;
  struct_again = refl;
  no_type_any_more = refl;
  two_bodies = refl;
  other_types = refl;
  later_attributes = refl;
  function_of_a_globals_name = refl;
  case_again = refl;
  case_again_as_unsigned = refl;
  default_again = refl;
  label_again = refl;
}

-- those of TY3
types_told : WrongTypes (told_in first_failing)
unfolding computed
types_told = record {
  no_such_pointer = refl;
  no_such_alias = refl;
  in_itself = refl;
  before_its_definition = refl;
  void_thing = refl;
  void_local = refl;
  tag_of_the_other_kind = refl;
  struct_as_test = refl;
  pointer_as_switch_value = refl;
  pointer_in_a_sum = refl;
  bits_of_int = refl;
  other_struct = refl;
  address_of_an_integer = refl;
  null_followed = refl;
  index_of_a_number = refl;
  arrow_at_a_struct = refl;
  array_as_value = refl;
  dropped_const = refl;
  void_call_as_value = refl;
  called_variable = refl;
  other_argument = refl;
}

-- those of TY4
counts_told : WrongCounts (told_in first_failing)
unfolding computed
counts_told = record {
  too_few_arguments = refl;
  too_many_arguments = refl;
  one_argument = refl;
}

-- those of TY5
left_sides_told : NotAssignable (told_in first_failing)
unfolding computed
left_sides_told = record {
  constant_written = refl;
  value_written = refl;
  constant_target_written = refl;
  enumerator_written = refl;
}

-- those of TY6
attributes_told : OutOfPlace (told_in first_failing)
unfolding computed
attributes_told = record {
  no_lock = refl;
  on_a_function = refl;
  on_a_global = refl;
  on_an_array = refl;
  array_of_locks = refl;
  not_beside_others = refl;
}

-- those of TY7
jumps_told : WithoutTarget (told_in first_failing)
unfolding computed
jumps_told = record {
  break_alone = refl;
  continue_in_switch = refl;
  no_label = refl;
  case_alone = refl;
  default_in_a_loop = refl;
}

-- those of TY8
returns_told : WrongReturns (told_in first_failing)
unfolding computed
returns_told = record {
  value_of_nothing = refl;
  no_value = refl;
  other_value = refl;
}

-- those of TY9
constants_told : NotConstant (told_in first_failing)
unfolding computed
constants_told = record {
  variable_length = refl;
  no_length = refl;
  long_length = refl;
  variable_initialiser = refl;
  null_for_an_integer = refl;
  too_many = refl;
  own_address = refl;
  index_out_of_range = refl;
  trap_in_an_enumerator = refl;
  count_leaves_int = refl;
  variable_case = refl;
}

-- those in which each rule is kept
typed_told : TypedTexts (told_in first_failing)
unfolding computed
typed_told = record {
  a_guarded_member = refl;
  a_guard_by_a_pointer = refl;
  a_function_of_locks = refl;
  an_order_of_locks = refl;
  lists = refl;
  addresses = refl;
  enumerators = refl;
  converted = refl;
  names_in_turn = refl;
  parameters_in_turn = refl;
  tags_in_the_whole_unit = refl;
  pointers = refl;
  null = refl;
  integers = refl;
  jumps = refl;
  labels = refl;
  returns = refl;
}

-- each text by its first failing node
texts_are_told : TextsAreTold (told_in first_failing)
texts_are_told = record {
  unknown = unknown_told;
  again = again_told;
  types = types_told;
  counts = counts_told;
  left_sides = left_sides_told;
  attributes = attributes_told;
  jumps = jumps_told;
  returns = returns_told;
  constants = constants_told;
  typed_texts = typed_told;
}

-- the premises in order tell the same of them
pub units_are_typed : UnitsAreTyped
units_are_typed =
    let same : first_failing ≡ refusal_of_types = fun_ext premises_tell_it in
    record {
      by_nodes = texts_are_told;
      by_premises = subst (λ refusal. TextsAreTold (told_in refusal)) same texts_are_told;
      places_by_nodes = places_are_told;
      places_by_premises = subst (λ refusal. PlacesAreTold (told_in refusal)) same places_are_told;
    }
