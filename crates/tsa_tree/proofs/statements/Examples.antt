-- Statements of each form, worked out.
use Rattle.std.proofs.Common.{refl}
use Rattle.tsa_base.specs.Tokens.{punctuators, is_punctuator, is_token, longest_up_to, kind_of, block_end, opens_line, line_word}
use Rattle.tsa_base.specs.Tokens.{is_skipped, front_of, pieces_at}
use Rattle.tsa_base.specs.Numbers.{number_of}
use Rattle.tsa_base.specs.Words.{keywords, macro_words, reserved, is_reserved}
use Rattle.tsa_tree.specs.tokens.Signs.{meaning_at, meaning_of, attribute_names, bare_name, is_word_at, punctuator_signs, word_signs}
use Rattle.tsa_tree.specs.tokens.Signs.{word_sign, punctuator_sign, sign_of, sign_at, span_at, span_over, identifier_at, value_at}
use Rattle.tsa_tree.specs.tokens.Signs.{unsigned_at}
use Rattle.tsa_tree.specs.Reads.{read}
use Rattle.tsa_grammar.specs.Reading.{then, choose, measure, run_in, run}
use Rattle.tsa_tree.specs.attributes.Syntax.{try_value}
use Rattle.tsa_tree.specs.statements.Examples.{StatementsAreRead}

pub statements_are_read : StatementsAreRead
unfolding punctuators is_punctuator is_token longest_up_to kind_of block_end opens_line line_word is_skipped front_of pieces_at number_of keywords macro_words reserved is_reserved punctuator_signs word_signs word_sign punctuator_sign sign_of sign_at span_at span_over identifier_at value_at unsigned_at read then choose measure run_in run try_value meaning_at meaning_of attribute_names bare_name is_word_at
statements_are_read = record {
  empty_one = refl;
  evaluated = refl;
  called = refl;
  summed = refl;
  assigned = refl;
  assigned_with = refl;
  assigned_in_parentheses = refl;
  stepped = refl;
  stepped_before = refl;
  no_block = refl;
  blocked = refl;
  if_only = refl;
  if_both = refl;
  nearest = refl;
  nearest_in_loop = refl;
  two_elses = refl;
  while_one = refl;
  do_one = refl;
  for_nothing = refl;
  for_all = refl;
  for_local = refl;
  switched = refl;
  labelled = refl;
  continued = refl;
  returned = refl;
  returned_value = refl;
  at_the_end = refl;
  no_arm = refl;
  else_alone = refl;
  no_declaration = refl;
  declared_arm = refl;
  type_as_label = refl;
  sum_assigned = refl;
  stepped_twice = refl;
  case_alone = refl;
  two_locals = refl;
  no_semicolon = refl;
  not_closed = refl;
  deep_block = refl;
  deep_test = refl;
  deep_body = refl;
  deep_in_body = refl;
}
