-- What a length comes to, and the premises of a declared name and of its type by what was found of them.
use Rattle.std.specs.Prelude.{ℕ, Bool, List, ◌∷◌, Option, Some, None, Result, Ok, Err}
use Rattle.tsa_base.specs.declared.token.Span.{Span}
use Rattle.tsa_tree.specs.declared.kind.Resolved.{Resolved}
use Rattle.tsa_tree.specs.declared.premise.Failure.{Failure}
use Rattle.tsa_tree.specs.declared.premise.TypeCode.TheVariants.{TY2, TY3, TY9}
use Rattle.tsa_tree.specs.types.DeclaredTypes.{length_in, unknown_tag}
use Rattle.tsa_tree.specs.types.Premises.{Premise, premise}
use Rattle.tsa_types_expressions.specs.declared.declarations.Length.{Length}
use Rattle.tsa_types_expressions.specs.declared.constants.Found.{Found}
use Rattle.tsa_types_expressions.specs.Found.{found_constant}
use Rattle.tsa_types_expressions.specs.Verdicts.{at}

-- a length that isn't one has some length, and is refused by that
abbrev pub by_elements : Span → Option ℕ → Length
by_elements span None = record { elements = Some 1; failure = Some (at TY9 span) }
by_elements span (Some n) = record { elements = Some n; failure = None }

abbrev pub told_of : Span → Result Found Failure → Length
told_of span (Err failure) = record { elements = Some 1; failure = Some failure }
told_of span (Ok f) = by_elements span (length_in (found_constant f))

unfoldable pub name_premises : Bool → Bool → Span → Resolved → List Premise
name_premises taken refused span resolved = premise TY2 span taken ∷ premise TY3 span refused ∷ unknown_tag resolved
