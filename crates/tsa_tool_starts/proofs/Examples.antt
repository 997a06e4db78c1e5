-- Worked words.
use Rattle.std.proofs.Common.{refl}
use Rattle.tsa_core.proofs.BodyExamples.{worked}
use Rattle.tsa_profile_accesses.specs.Premises as profile
use Rattle.tsa_tree.specs.types.Premises as types
use Rattle.tsa_tree.specs.types.Initialisers.{cell_premises, initialiser_premises}
use Rattle.tsa_tree.specs.types.Expressions.{premises_of}
use Rattle.tsa_profile_accesses.specs.Expressions.{parts, arguments}
use Rattle.tsa_profile_items.specs.Declarations.{init_premises}
use Rattle.tsa_profile.specs.Arguments.{behind_items}
use Rattle.tsa_tool_starts.specs.Starts.{arguments_of}
use Rattle.tsa_tool_starts.specs.Examples.{WordsAreAsWritten}

pub words_are_as_written : WordsAreAsWritten
unfolding worked profile.first types.first cell_premises initialiser_premises premises_of parts arguments init_premises behind_items arguments_of
words_are_as_written = record {
  name = refl;
  no_arguments = refl;
  accounts = refl;
  negative = refl;
  null_pointer = refl;
  zero = refl;
  name_in_parentheses = refl;
  call_in_parentheses = refl;
  gaps = refl;
  unknown = refl;
  variable = refl;
  number = refl;
  followed = refl;
  of_the_environment = refl;
  of_a_lock = refl;
  requires_a_lock = refl;
  gives_a_lock = refl;
  tries_a_lock = refl;
  fewer = refl;
  further = refl;
  of_another_type = refl;
  no_constant = refl;
  out_of_range = refl;
}
