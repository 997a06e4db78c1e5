-- What an argument of an attribute comes to by what it was found to be.
use Rattle.std.specs.Prelude.{Option, Some, None, Result, Ok, Err, if◌then◌else◌}
use Rattle.tsa_base.specs.declared.token.Span.{Span}
use Rattle.tsa_tree.specs.declared.premise.Failure.{Failure}
use Rattle.tsa_tree.specs.declared.premise.TypeCode.TheVariants.{TY6}
use Rattle.tsa_tree.specs.types.Attributes.{is_lock_type}
use Rattle.tsa_tree.specs.types.Scopes.{Scope}
use Rattle.tsa_types_expressions.specs.declared.constants.Found.{Found}
use Rattle.tsa_types_expressions.specs.Verdicts.{at}

-- a lock expression, or what is wrong with it
abbrev pub locked : Scope → Span → Result Found Failure → Option Failure
locked here span (Err failure) = Some failure
locked here span (Ok f) = if is_lock_type here f.thing then None else Some (at TY6 span)
