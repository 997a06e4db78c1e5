-- An expression's type, or its first premise that fails; and what each node comes to by its parts.
use Rattle.std.specs.Prelude.{Bool, true, false, Option, Some, None, Result, Ok, Err, if◌then◌else◌}
use Rattle.tsa_base.specs.declared.token.Span.{Span}
use Rattle.tsa_tree.specs.expressions.Syntax.{Expression, Arguments, nowhere}
use Rattle.tsa_tree.specs.declared.premise.TypeCode.{TypeCode}
use Rattle.tsa_tree.specs.declared.premise.TypeCode.TheVariants.{TY1, TY3, TY4}
use Rattle.tsa_tree.specs.types.Expressions.{type_of, premises_of, premises_of_all, entry_type, result_type}
use Rattle.tsa_tree.specs.types.Known.{Context}
use Rattle.tsa_tree.specs.declared.meaning.Entry.{Entry}
use Rattle.tsa_tree.specs.types.Premises.{first}
use Rattle.tsa_tree.specs.declared.premise.Failure.{Failure}
use Rattle.tsa_tree.specs.declared.kind.ThingType.{ThingType}
use Rattle.tsa_tree.specs.declared.kind.ExpressionType.{ExpressionType}

abbrev pub at : TypeCode → Span → Failure
at code span = record { code = code; span = span }

-- an expression without a failing premise has a type
abbrev pub outcome : Option Failure → Option ExpressionType → Result ExpressionType Failure
outcome (Some failure) t = Err failure
outcome None (Some t) = Ok t
outcome None None = Err (at TY1 nowhere)

unfoldable pub verdict_of : Context → Expression → Result ExpressionType Failure
verdict_of c e = outcome (first (premises_of c e)) (type_of c e)

-- the first failing premise of arguments
unfoldable pub failure_of_all : Context → Arguments → Option Failure
failure_of_all c args = first (premises_of_all c args)

-- the type that was found
abbrev pub found_type : Result ExpressionType Failure → Option ExpressionType
found_type (Ok t) = Some t
found_type (Err failure) = None

abbrev pub name_verdict : Span → Option Entry → Result ExpressionType Failure
name_verdict span None = Err (at TY1 span)
name_verdict span (Some e) = Ok (entry_type e)

abbrev pub one_verdict : Span → Bool → (ExpressionType → ExpressionType) → Result ExpressionType Failure → Result ExpressionType Failure
one_verdict span true f inner = Err (at TY3 span)
one_verdict span false f (Err failure) = Err failure
one_verdict span false f (Ok t) = Ok (f t)

abbrev pub two_verdict : Span → Bool → (ExpressionType → ExpressionType → ExpressionType) → Result ExpressionType Failure → Result ExpressionType Failure
    → Result ExpressionType Failure
two_verdict span true f left right = Err (at TY3 span)
two_verdict span false f (Err failure) right = Err failure
two_verdict span false f (Ok a) (Err failure) = Err failure
two_verdict span false f (Ok a) (Ok b) = Ok (f a b)

abbrev pub member_verdict : Span → (ThingType → ExpressionType) → Option ThingType → Result ExpressionType Failure
member_verdict span f None = Err (at TY1 span)
member_verdict span f (Some m) = Ok (f m)

abbrev pub field_verdict : Span → Span → (ExpressionType → Bool) → (ExpressionType → Option ThingType) → (ExpressionType → ThingType → ExpressionType)
    → Result ExpressionType Failure → Result ExpressionType Failure
field_verdict span name owns member f (Err failure) = Err failure
field_verdict span name owns member f (Ok t) = if owns t then member_verdict name (f t) (member t) else Err (at TY3 span)

abbrev pub or_failed : Option Failure → ExpressionType → Result ExpressionType Failure
or_failed (Some failure) t = Err failure
or_failed None t = Ok t

abbrev pub call_verdict : Span → Span → (Entry → Bool) → (Entry → Bool) → Option Failure → Option Entry → Result ExpressionType Failure
call_verdict callee span breaks miscounts failure None = Err (at TY1 callee)
call_verdict callee span breaks miscounts failure (Some e) =
    if breaks e then Err (at TY3 span) else (if miscounts e then Err (at TY4 span) else or_failed failure (result_type e))
