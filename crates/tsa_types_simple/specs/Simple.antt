-- What assignments, tests and values of statements come to by what their expressions were found to be.
use Rattle.std.specs.Prelude.{Bool, not, ◌&&◌, Option, Some, None, Result, Ok, Err, if◌then◌else◌}
use Rattle.std.specs.Result.{result_err}
use Rattle.tsa_base.specs.declared.token.Span.{Span}
use Rattle.tsa_tree.specs.declared.expr.BinaryOp.{BinaryOp}
use Rattle.tsa_tree.specs.declared.kind.ExpressionType.{ExpressionType}
use Rattle.tsa_tree.specs.declared.kind.ThingType.{ThingType}
use Rattle.tsa_tree.specs.declared.premise.Failure.{Failure}
use Rattle.tsa_tree.specs.declared.premise.TypeCode.TheVariants.{TY3, TY5, TY8}
use Rattle.tsa_tree.specs.types.Operands.{goes_to, is_integer, is_scalar}
use Rattle.tsa_tree.specs.types.Simple.{assignment_breaks, is_written_to, written_type, is_void}
use Rattle.tsa_types_expressions.specs.declared.constants.Found.{Found}
use Rattle.tsa_types_expressions.specs.Parts.{found_thing}
use Rattle.tsa_types_expressions.specs.Verdicts.{at}
use Rattle.tsa_types_simple.specs.declared.verdicts.Target.{Target}

-- the left side is judged first, and then what fails in the right one
abbrev pub written_by : Span → Result Found Failure → Option Failure → Option Failure
written_by place (Err failure) right = Some failure
written_by place (Ok f) right = if is_written_to f.thing then right else Some (at TY5 place)

abbrev pub assigned : Option BinaryOp → Span → Target → Result Found Failure → Option Failure
assigned op span left right =
    if assignment_breaks op (written_type (found_thing left.found)) (found_thing right) then Some (at TY3 span) else written_by left.span left.found (result_err right)

-- a test or a value of a type is judged at the statement's first word
abbrev pub passes : (ExpressionType → Bool) → Span → Result Found Failure → Option Failure
passes test span (Ok f) = if test f.thing then None else Some (at TY3 span)
passes test span (Err failure) = None

abbrev pub tested_by : Span → Result Found Failure → Option Failure
tested_by span found = passes is_scalar span found

abbrev pub valued : Span → Result Found Failure → Option Failure
valued span found = passes is_integer span found

abbrev pub returned : ThingType → Span → Option (Result Found Failure) → Option Failure
returned gives span None = if is_void gives then None else Some (at TY8 span)
returned gives span (Some (Ok f)) = if not (is_void gives) && goes_to f.thing gives then None else Some (at TY8 span)
returned gives span (Some (Err failure)) = if is_void gives then Some (at TY8 span) else Some failure
