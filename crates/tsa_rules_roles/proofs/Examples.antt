-- Constants and answers, worked out.
use Rattle.std.proofs.Common.{refl}
use Rattle.tsa_tree.specs.types.Constants.{constant_of}
use Rattle.tsa_tree.specs.types.Expressions.{type_of, types_of}
use Rattle.tsa_tree.specs.types.Scopes.{Scope}
use Rattle.tsa_core.specs.Meanings.{meaning}
use Rattle.tsa_rules_roles.specs.Examples.{ConstantsAreAsWritten, AnswersAreAsWritten}

pub constants_are_as_written : (here : Scope) → ConstantsAreAsWritten here
unfolding meaning constant_of type_of types_of
constants_are_as_written here = record {
  difference = refl;
  less_than_zero = refl;
  stops_early = refl;
  beside_unsigned = refl;
  trap = refl;
  pointer = refl;
  denied_pointer = refl;
  zero_beside_null = refl;
  untyped_term = refl;
  untyped_text = refl;
}

pub answers_are_as_written : (here : Scope) → AnswersAreAsWritten here
unfolding meaning
answers_are_as_written here = record {
  one = refl;
  nothing = refl;
  two = refl;
  less_than_zero = refl;
  worked = refl;
  denied = refl;
  trap = refl;
  of_unsigned = refl;
  large = refl;
  to_unsigned = refl;
  null_given = refl;
  zero_given = refl;
}
