-- Points of each form, worked out.
use Rattle.std.proofs.Common.{refl}
use Rattle.tsa_base.specs.Tokens.{punctuators, is_punctuator, is_token, longest_up_to, kind_of, block_end, opens_line, line_word}
use Rattle.tsa_base.specs.Tokens.{is_skipped, front_of, pieces_at}
use Rattle.tsa_base.specs.Numbers.{number_of}
use Rattle.tsa_base.specs.Words.{keywords, macro_words, reserved, is_reserved}
use Rattle.tsa_tree.specs.tokens.Signs.{meaning_at, meaning_of, attribute_names, bare_name, is_word_at, punctuator_signs, word_signs}
use Rattle.tsa_tree.specs.tokens.Signs.{word_sign, punctuator_sign, sign_of, sign_at, span_at, span_over, identifier_at, value_at}
use Rattle.tsa_tree.specs.tokens.Signs.{unsigned_at}
use Rattle.tsa_tree.specs.Reads.{read}
use Rattle.tsa_grammar.specs.Reading.{then, choose, measure, run_in, run}
use Rattle.tsa_tree.specs.attributes.Syntax.{try_value}
use Rattle.tsa_tree.specs.points.Examples.{PointsAreInOrder}

pub points_are_in_order : PointsAreInOrder
unfolding punctuators is_punctuator is_token longest_up_to kind_of block_end opens_line line_word is_skipped front_of pieces_at number_of keywords macro_words reserved is_reserved punctuator_signs word_signs word_sign punctuator_sign sign_of sign_at span_at span_over identifier_at value_at unsigned_at read then choose measure run_in run try_value meaning_at meaning_of attribute_names bare_name is_word_at
points_are_in_order = record {
  of_a_block = refl;
  of_an_if = refl;
  of_a_while = refl;
  of_a_do = refl;
  of_a_for = refl;
  of_a_local_for = refl;
  of_an_endless_for = refl;
  of_a_switch = refl;
  of_jumps = refl;
  places_of_a_for = refl;
  places_inside_a_for = refl;
  place_of_a_test = refl;
  end_of_a_body = refl;
}
