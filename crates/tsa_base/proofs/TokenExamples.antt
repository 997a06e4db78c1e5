-- The tokens of texts of each form, worked out.
use Rattle.std.proofs.Common.{refl}
use Rattle.tsa_base.specs.TokenLaws.{TokensAreAsWritten}
use Rattle.tsa_base.specs.Tokens.{punctuators, is_punctuator, is_token, longest_up_to, kind_of, block_end, opens_line, line_word}
use Rattle.tsa_base.specs.Tokens.{is_skipped, front_of, pieces_at}
use Rattle.tsa_base.specs.Numbers.{number_of}

pub tokens_are_as_written : TokensAreAsWritten
unfolding punctuators is_punctuator is_token longest_up_to kind_of block_end opens_line line_word is_skipped front_of pieces_at number_of
tokens_are_as_written = record {
  nothing = refl;
  declaration = refl;
  zero = refl;
  decimal = refl;
  suffixed = refl;
  octal = refl;
  wide_octal = refl;
  hexadecimal = refl;
  wide_hexadecimal = refl;
  sign_apart = refl;
  text = refl;
  punctuators = refl;
  block = refl;
  line_comment = refl;
  included = refl;
  marker = refl;
  lone = refl;
  starts_nothing = refl;
  sign_in_mid_line = refl;
  open_comment = refl;
  octal_nine = refl;
  too_wide = refl;
  no_digits = refl;
  fraction = refl;
  defined = refl;
  open_text = refl;
  text_over_lines = refl;
}
