-- Units, worked out.
use Rattle.std.proofs.Common.{refl}
use Rattle.tsa_base.specs.Tokens.{punctuators, is_punctuator, is_token, longest_up_to, kind_of, block_end, opens_line, line_word}
use Rattle.tsa_base.specs.Tokens.{is_skipped, front_of, pieces_at}
use Rattle.tsa_base.specs.Numbers.{number_of}
use Rattle.tsa_base.specs.Words.{keywords, macro_words, reserved, is_reserved}
use Rattle.tsa_tree.specs.tokens.Signs.{meaning_at, meaning_of, attribute_names, bare_name, is_word_at, punctuator_signs, word_signs}
use Rattle.tsa_tree.specs.tokens.Signs.{word_sign, punctuator_sign, sign_of, sign_at, span_at, span_over, identifier_at, value_at}
use Rattle.tsa_tree.specs.tokens.Signs.{unsigned_at}
use Rattle.tsa_tree.specs.Reads.{read}
use Rattle.tsa_tree.specs.units.Answers.{read_unit}
use Rattle.tsa_grammar.specs.Reading.{then, choose, measure, run_in, run}
use Rattle.tsa_tree.specs.attributes.Syntax.{try_value}
use Rattle.tsa_tree.specs.units.Examples.{UnitsAreRead}

pub units_are_read : UnitsAreRead
unfolding read_unit punctuators is_punctuator is_token longest_up_to kind_of block_end opens_line line_word is_skipped front_of pieces_at number_of keywords macro_words reserved is_reserved punctuator_signs word_signs word_sign punctuator_sign sign_of sign_at span_at span_over identifier_at value_at unsigned_at read then choose measure run_in run try_value meaning_at meaning_of attribute_names bare_name is_word_at
units_are_read = record {
  nothing = refl;
  one_item = refl;
  two_items = refl;
  tag_alone = refl;
  prototype = refl;
  empty_body = refl;
  body = refl;
  body_behind_prototype = refl;
  alias_behind_its_item = refl;
  alias_of_a_structure = refl;
  alias_in_a_body = refl;
  alias_before_its_item = refl;
  alias_in_its_own_item = refl;
  alias_as_a_name = refl;
  ends_in_an_item = refl;
  ends_in_a_body = refl;
  closed_twice = refl;
  semicolon_alone = refl;
  body_of_a_global = refl;
  two_functions = refl;
  hundred_braces = refl;
  more_braces = refl;
}
