-- Expressions whose canonical text is read again.
use Rattle.std.specs.Prelude.{Bool, true, false, ◌&&◌, ◌||◌, not}
use Rattle.tsa_tree.specs.expressions.Syntax.{Expression, Arguments, number, null, named, call, unary, binary, field, index, none, more}
use Rattle.tsa_tree.specs.expressions.Sound.{words_beside, is_sound}
use Rattle.tsa_tree.specs.tokens.Signs.{Aliases}

abbrev pub is_number : Expression → Bool
is_number (number value unsigned span) = true
is_number _ = false

-- no `.` has a number as its base: `1 .x` is an expression, but `1.x` is the run of no number
abbrev mutual
  pub has_plain_bases : Expression → Bool
  has_plain_bases (number value unsigned span) = true
  has_plain_bases (null span) = true
  has_plain_bases (named name span) = true
  has_plain_bases (call callee args span) = have_plain_bases args
  has_plain_bases (unary o inner span) = has_plain_bases inner
  has_plain_bases (binary o left right span) = has_plain_bases left && has_plain_bases right
  has_plain_bases (field base name arrow span) = has_plain_bases base && (arrow || not (is_number base))
  has_plain_bases (index base at span) = has_plain_bases base && has_plain_bases at

  pub have_plain_bases : Arguments → Bool
  have_plain_bases none = true
  have_plain_bases (more first rest) = has_plain_bases first && have_plain_bases rest

abbrev pub is_writable : Aliases → Expression → Bool
is_writable aliases tree = is_sound (words_beside aliases) tree && has_plain_bases tree
