-- The first premise that fails in an expression, before another.
use Rattle.std.specs.Prelude.{Bool, true, false, ◌++◌, Option}
use Rattle.tsa_tree.specs.declared.expr.UnaryOp.{UnaryOp}
use Rattle.tsa_tree.specs.declared.expr.UnaryOp.TheVariants as prefix
use Rattle.tsa_tree.specs.expressions.Syntax.{Expression, Arguments}
use Rattle.tsa_profile_accesses.specs.declared.premise.Failure.{Failure}
use Rattle.tsa_profile_accesses.specs.declared.standing.Standing.{Standing}
use Rattle.tsa_profile_accesses.specs.Premises.{first, or_else}
use Rattle.tsa_profile_accesses.specs.Expressions.{View, arguments, own, parts}

abbrev pub is_address : UnaryOp → Bool
is_address prefix.Address = true
is_address o = false

-- an expression whose value is wanted or not, and the arguments of a call, each before what was found behind it
unfoldable pub failing : View → Standing → (is_value : Bool) → Expression → Option Failure → Option Failure
failing v s is_value e later = or_else (first (own v s is_value e ++ parts v s e)) later

unfoldable pub failing_arguments : View → Arguments → Option Failure → Option Failure
failing_arguments v args later = or_else (first (arguments v args)) later
