-- The examples, worked out.
use Rattle.std.proofs.Common.{refl}
use Rattle.tsa_core.proofs.BodyExamples.{worked}
use Rattle.tsa_profile_accesses.specs.Premises as profile
use Rattle.tsa_tree.specs.types.Premises as types
use Rattle.tsa_tree.specs.types.Initialisers.{cell_premises, initialiser_premises}
use Rattle.tsa_tree.specs.types.Expressions.{premises_of}
use Rattle.tsa_profile_accesses.specs.Expressions.{parts, arguments}
use Rattle.tsa_profile_items.specs.Declarations.{init_premises}
use Rattle.tsa_profile.specs.Arguments.{behind_items}
use Rattle.tsa_profile.specs.ArgumentExamples.{ArgumentsAreAsWritten}

pub arguments_are_as_written : ArgumentsAreAsWritten
unfolding worked profile.first types.first cell_premises initialiser_premises premises_of parts arguments init_premises behind_items
arguments_are_as_written = record {
  number = refl;
  enumerator = refl;
  unsigned_number = refl;
  overflow = refl;
  object = refl;
  member = refl;
  element = refl;
  out_of_range = refl;
  null_pointer = refl;
  zero = refl;
  to_const = refl;
  const_is_added = refl;
  const_is_dropped = refl;
  to_another_struct = refl;
  to_what_is_guarded = refl;
  variable = refl;
  called = refl;
  unknown = refl;
  own_parameter = refl;
  past_the_last = refl;
  number_is_held = refl;
  pointer_is_held = refl;
  null_is_held = refl;
  typed_pointer = refl;
  refused_pointer = refl;
  refused_variable = refl;
  refused_name = refl;
}
