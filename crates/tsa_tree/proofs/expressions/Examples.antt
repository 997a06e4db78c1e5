-- Expressions of each form, worked out.
use Rattle.std.proofs.Common.{refl}
use Rattle.tsa_base.specs.Tokens.{punctuators, is_punctuator, is_token, longest_up_to, kind_of, block_end, opens_line, line_word}
use Rattle.tsa_base.specs.Tokens.{is_skipped, front_of, pieces_at}
use Rattle.tsa_base.specs.Numbers.{number_of}
use Rattle.tsa_base.specs.Words.{keywords, macro_words, reserved, is_reserved}
use Rattle.tsa_tree.specs.tokens.Signs.{punctuator_signs, word_signs, word_sign, punctuator_sign, sign_of, sign_at, span_at, span_over}
use Rattle.tsa_tree.specs.tokens.Signs.{identifier_at, value_at, unsigned_at}
use Rattle.tsa_tree.specs.Reads.{read}
use Rattle.tsa_tree.specs.expressions.Examples.{ProductionsAreRead}
use Rattle.tsa_grammar.specs.Reading.{then, choose, measure, run_in, run}

pub productions_are_read : ProductionsAreRead
unfolding punctuators is_punctuator is_token longest_up_to kind_of block_end opens_line line_word is_skipped front_of pieces_at number_of keywords macro_words reserved is_reserved punctuator_signs word_signs word_sign punctuator_sign sign_of sign_at span_at span_over identifier_at value_at unsigned_at read then choose measure run_in run
productions_are_read = record {
  int_number = refl;
  unsigned_number = refl;
  null_pointer = refl;
  variable = refl;
  parentheses = refl;
  call_of_none = refl;
  call_of_two = refl;
  member = refl;
  member_behind = refl;
  element = refl;
  element_of_member = refl;
  minus = refl;
  not = refl;
  flip = refl;
  address = refl;
  follow = refl;
  both_or = refl;
  bits = refl;
  equal = refl;
  unequal = refl;
  orders = refl;
  sums = refl;
  from_the_left = refl;
  from_the_right = refl;
  products = refl;
  operand_alone = refl;
  spans = refl;
  no_operand = refl;
  no_argument = refl;
  no_word = refl;
  open_call = refl;
  open_parenthesis = refl;
  open_bracket = refl;
  no_member = refl;
  deep_parenthesis = refl;
  deep_prefix = refl;
  deep_call = refl;
  deep_bracket = refl;
}
