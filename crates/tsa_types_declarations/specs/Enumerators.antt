-- What the value of an enumerator comes to by what it was found to be, and the premises of one enumerator.
use Rattle.std.specs.Prelude.{ℤ, List, ◌∷◌, Result, Ok, Err}
use Rattle.std.specs.Option.{ok_or}
use Rattle.tsa_base.specs.declared.token.Span.{Span}
use Rattle.tsa_tree.specs.declarations.Syntax.{EnumConstant}
use Rattle.tsa_tree.specs.declared.premise.Failure.{Failure}
use Rattle.tsa_tree.specs.declared.premise.TypeCode.TheVariants.{TY2, TY9}
use Rattle.tsa_tree.specs.types.Enums.{int_value, value_premises}
use Rattle.tsa_tree.specs.types.Premises.{Premise, premise}
use Rattle.tsa_tree.specs.types.Scopes.{Scope, is_taken}
use Rattle.tsa_types_expressions.specs.declared.constants.Found.{Found}
use Rattle.tsa_types_expressions.specs.Found.{found_constant}
use Rattle.tsa_types_expressions.specs.Verdicts.{at}

-- a constant that is an `int` is the worth of its enumerator
abbrev pub worth_by : Span → Result Found Failure → Result ℤ Failure
worth_by span (Err failure) = Err failure
worth_by span (Ok f) = ok_or (int_value (found_constant f)) (at TY9 span)

-- an enumerator's own premises, before those of the ones after it
unfoldable pub own_premises : Scope → ℤ → EnumConstant → List Premise
own_premises here next e = premise TY2 e.name.span (is_taken e.name.text here) ∷ value_premises here e.name e.value next
