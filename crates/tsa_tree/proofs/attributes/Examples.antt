-- Attributes of each form, worked out.
use Rattle.std.proofs.Common.{refl}
use Rattle.tsa_base.specs.Tokens.{punctuators, is_punctuator, is_token, longest_up_to, kind_of, block_end, opens_line, line_word}
use Rattle.tsa_base.specs.Tokens.{is_skipped, front_of, pieces_at}
use Rattle.tsa_base.specs.Numbers.{number_of}
use Rattle.tsa_base.specs.Words.{keywords, macro_words, reserved, is_reserved}
use Rattle.tsa_tree.specs.tokens.Signs.{meaning_at, meaning_of, attribute_names, bare_name, is_word_at, punctuator_signs, word_signs}
use Rattle.tsa_tree.specs.tokens.Signs.{word_sign, punctuator_sign, sign_of, sign_at, span_at, span_over, identifier_at, value_at}
use Rattle.tsa_tree.specs.tokens.Signs.{unsigned_at}
use Rattle.tsa_tree.specs.Reads.{read}
use Rattle.tsa_grammar.specs.Reading.{then, choose, measure, run_in, run}
use Rattle.tsa_tree.specs.attributes.Answers.{read_any}
use Rattle.tsa_tree.specs.attributes.Syntax.{try_value}
use Rattle.tsa_tree.specs.attributes.Examples.{AttributesAreRead}

pub attributes_are_read : AttributesAreRead
unfolding punctuators is_punctuator is_token longest_up_to kind_of block_end opens_line line_word is_skipped front_of pieces_at number_of keywords macro_words reserved is_reserved punctuator_signs word_signs word_sign punctuator_sign sign_of sign_at span_at span_over identifier_at value_at unsigned_at read then choose measure run_in run read_any try_value meaning_at meaning_of attribute_names bare_name is_word_at
attributes_are_read = record {
  nothing = refl;
  capability = refl;
  guarded_by = refl;
  requires_two = refl;
  tried = refl;
  tried_0 = refl;
  two_groups = refl;
  in_list = refl;
  underscores = refl;
  balanced = refl;
  no_entries = refl;
  macro_inside = refl;
  before_two = refl;
  after_one = refl;
  not_held = refl;
  not_held_word = refl;
  held_and_not = refl;
  not_held_shared = refl;
  macro_left_out = refl;
  entry_left_out = refl;
  macro_left_out_inside = refl;
  left_out_behind = refl;
  no_parenthesis = refl;
  nothing_inside = refl;
  nothing_before = refl;
  result_alone = refl;
  entry_lacks = refl;
  at_the_end = refl;
  not_closed = refl;
  two_guards = refl;
  odd_result = refl;
  two_commas = refl;
  unbalanced = refl;
  deep_macro = refl;
  deep_list = refl;
  deep_balanced = refl;
}
