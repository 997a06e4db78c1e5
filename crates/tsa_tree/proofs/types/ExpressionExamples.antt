-- The examples, computed.
use Rattle.std.proofs.Common.{refl}
use Rattle.tsa_base.specs.Tokens.{punctuators, is_punctuator, is_token, longest_up_to, kind_of, block_end, opens_line, line_word}
use Rattle.tsa_base.specs.Tokens.{is_skipped, front_of, pieces_at}
use Rattle.tsa_base.specs.Numbers.{number_of}
use Rattle.tsa_base.specs.Words.{keywords, macro_words, reserved, is_reserved}
use Rattle.tsa_tree.specs.tokens.Signs.{punctuator_signs, word_signs, word_sign, punctuator_sign, sign_of, sign_at, span_at, span_over}
use Rattle.tsa_tree.specs.tokens.Signs.{identifier_at, value_at, unsigned_at}
use Rattle.tsa_tree.specs.Reads.{read}
use Rattle.tsa_grammar.specs.Reading.{then, choose, measure, run_in, run}
use Rattle.tsa_tree.specs.types.Expressions.{type_of, types_of, premises_of, premises_of_all}
use Rattle.tsa_tree.specs.types.Premises.{first}
use Rattle.tsa_tree.specs.types.Constants.{constant_of}
use Rattle.tsa_tree.specs.types.ExpressionExamples.{TypesAreAsWritten, PremisesFailAsWritten, ConstantsAreAsWritten}

pub types_are_as_written : TypesAreAsWritten
unfolding punctuators is_punctuator is_token longest_up_to kind_of block_end opens_line line_word is_skipped front_of pieces_at number_of keywords macro_words reserved is_reserved punctuator_signs word_signs word_sign punctuator_sign sign_of sign_at span_at span_over identifier_at value_at unsigned_at read then choose measure run_in run type_of types_of premises_of premises_of_all first constant_of
types_are_as_written = record {
  sum = refl;
  mixed = refl;
  compared = refl;
  negated = refl;
  address = refl;
  address_behind = refl;
  member = refl;
  element = refl;
  called = refl;
  null_is_compared = refl;
  zero_is_compared = refl;
}

pub premises_fail_as_written : PremisesFailAsWritten
unfolding punctuators is_punctuator is_token longest_up_to kind_of block_end opens_line line_word is_skipped front_of pieces_at number_of keywords macro_words reserved is_reserved punctuator_signs word_signs word_sign punctuator_sign sign_of sign_at span_at span_over identifier_at value_at unsigned_at read then choose measure run_in run type_of types_of premises_of premises_of_all first constant_of
premises_fail_as_written = record {
  unknown = refl;
  unknown_callee = refl;
  unknown_member = refl;
  pointer_added = refl;
  no_bits = refl;
  no_struct = refl;
  no_place = refl;
  other_targets = refl;
  array_as_value = refl;
  no_function = refl;
  other_argument = refl;
  one_argument = refl;
  inside = refl;
  nothing = refl;
}

pub constants_are_as_written : ConstantsAreAsWritten
unfolding punctuators is_punctuator is_token longest_up_to kind_of block_end opens_line line_word is_skipped front_of pieces_at number_of keywords macro_words reserved is_reserved punctuator_signs word_signs word_sign punctuator_sign sign_of sign_at span_at span_over identifier_at value_at unsigned_at read then choose measure run_in run type_of types_of premises_of premises_of_all first constant_of
constants_are_as_written = record {
  sum = refl;
  least = refl;
  over = refl;
  wraps = refl;
  by_nothing = refl;
  stops_early = refl;
  toward_zero = refl;
  no_constant = refl;
}
