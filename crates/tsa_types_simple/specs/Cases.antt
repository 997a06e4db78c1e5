-- What a case comes to by what its value was found to be.
use Rattle.std.specs.Prelude.{not, ◌&&◌, Option, Some, None, Result, Ok, Err, if◌then◌else◌}
use Rattle.tsa_base.specs.declared.token.Span.{Span}
use Rattle.tsa_tree.specs.declared.number.Number.{Number}
use Rattle.tsa_tree.specs.declared.premise.Failure.{Failure}
use Rattle.tsa_tree.specs.declared.premise.TypeCode.TheVariants.{TY2, TY7, TY9}
use Rattle.tsa_tree.specs.types.Statements.{Around, is_case_again}
use Rattle.tsa_types_expressions.specs.declared.constants.Found.{Found}
use Rattle.tsa_types_expressions.specs.Found.{found_constant, found_value}
use Rattle.tsa_types_expressions.specs.Verdicts.{at}
use Rattle.tsa_types_simple.specs.declared.context.Key.{Key}

abbrev pub or_no_constant : Span → Option Number → Option Failure
or_no_constant span (Some n) = None
or_no_constant span None = Some (at TY9 span)

abbrev pub constant_by : Span → Result Found Failure → Option Failure
constant_by span (Err failure) = Some failure
constant_by span (Ok f) = or_no_constant span (found_constant f)

-- a value that an earlier case has, no switch round it, and then what is wrong with the value
abbrev pub case_by : Around → Span → Key → Option Failure
case_by a span key =
    if a.in_switch && is_case_again a.cases span.from (found_value key.found) then Some (at TY2 span)
    else (if not a.in_switch then Some (at TY7 span) else constant_by key.span key.found)
