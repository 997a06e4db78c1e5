-- Declarations of each form, worked out.
use Rattle.std.proofs.Common.{refl}
use Rattle.tsa_base.specs.Tokens.{punctuators, is_punctuator, is_token, longest_up_to, kind_of, block_end, opens_line, line_word}
use Rattle.tsa_base.specs.Tokens.{is_skipped, front_of, pieces_at}
use Rattle.tsa_base.specs.Numbers.{number_of}
use Rattle.tsa_base.specs.Words.{keywords, macro_words, reserved, is_reserved}
use Rattle.tsa_tree.specs.tokens.Signs.{meaning_at, meaning_of, attribute_names, bare_name, is_word_at, punctuator_signs, word_signs}
use Rattle.tsa_tree.specs.tokens.Signs.{word_sign, punctuator_sign, sign_of, sign_at, span_at, span_over, identifier_at, value_at}
use Rattle.tsa_tree.specs.tokens.Signs.{unsigned_at}
use Rattle.tsa_tree.specs.Reads.{read}
use Rattle.tsa_grammar.specs.Reading.{then, choose, measure, run_in, run}
use Rattle.tsa_tree.specs.attributes.Syntax.{try_value}
use Rattle.tsa_tree.specs.declarations.Examples.{DeclarationsAreRead}

pub declarations_are_read : DeclarationsAreRead
unfolding punctuators is_punctuator is_token longest_up_to kind_of block_end opens_line line_word is_skipped front_of pieces_at number_of keywords macro_words reserved is_reserved punctuator_signs word_signs word_sign punctuator_sign sign_of sign_at span_at span_over identifier_at value_at unsigned_at read then choose measure run_in run try_value meaning_at meaning_of attribute_names bare_name is_word_at
declarations_are_read = record {
  an_int = refl;
  an_unsigned = refl;
  an_unsigned_int = refl;
  a_signed = refl;
  a_signed_int = refl;
  a_void = refl;
  a_struct = refl;
  an_enum = refl;
  a_known_type = refl;
  a_known_tag = refl;
  const_before = refl;
  const_behind = refl;
  many_const = refl;
  storage_words = refl;
  a_star = refl;
  a_const_star = refl;
  a_length = refl;
  two_declarators = refl;
  a_value = refl;
  no_values = refl;
  last_value = refl;
  value_and_comma = refl;
  further_value = refl;
  globals = refl;
  no_member = refl;
  members = refl;
  structure_attributes = refl;
  tag_alone = refl;
  structure_alias = refl;
  tagged_structure_alias = refl;
  enumeration = refl;
  tagged_enumeration = refl;
  enumeration_alias = refl;
  untagged_enumeration_alias = refl;
  pointer_alias = refl;
  alias_of_structure = refl;
  alias_of_enumeration = refl;
  alias_of_alias = refl;
  function = refl;
  no_parameter = refl;
  parameters = refl;
  unnamed_pointers = refl;
  pointer_to_void = refl;
  void_not_alone = refl;
  head_before_semicolon = refl;
  head_before_block = refl;
  head_with_attributes = refl;
  a_local = refl;
  locals = refl;
  a_set_array = refl;
  a_single_local = refl;
  a_single_unset_local = refl;
  before_attributes = refl;
  spans_of_globals = refl;
  spans_of_parameters = refl;
  span_of_structure = refl;
  no_type = refl;
  int_before_unsigned = refl;
  second_star = refl;
  attribute_first = refl;
  at_the_end = refl;
  no_length = refl;
  open_bracket = refl;
  no_declarator = refl;
  comma_alone = refl;
  member_with_value = refl;
  open_member = refl;
  no_tag = refl;
  attributes_alone = refl;
  structure_with_name = refl;
  typedef_without_name = refl;
  type_alone = refl;
  array_alias = refl;
  known_again = refl;
  no_enumerator = refl;
  enumeration_with_name = refl;
  parameter_missing = refl;
  no_head = refl;
  no_variable = refl;
  static_local = refl;
  list_in_local = refl;
  global_left_out = refl;
  structure_left_out = refl;
  head_left_out = refl;
  global_lacks = refl;
  head_lacks = refl;
  hundred_braces = refl;
  deep_braces = refl;
  deep_length = refl;
  deep_value = refl;
}
