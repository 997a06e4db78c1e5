-- What a `for` comes to before its body by its parts.
use Rattle.std.specs.Prelude.{Option, Some, None, Result, if◌then◌else◌}
use Rattle.std.specs.Result.{result_err}
use Rattle.tsa_base.specs.declared.token.Span.{Span}
use Rattle.tsa_tree.specs.declared.premise.Failure.{Failure}
use Rattle.tsa_tree.specs.types.Premises.{or_else}
use Rattle.tsa_types_expressions.specs.declared.constants.Found.{Found}
use Rattle.tsa_types_simple.specs.declared.locals.Told.{Told}
use Rattle.tsa_types_simple.specs.Simple.{tested_by}

-- a test by itself, and what fails inside it, where it isn't left out
abbrev pub given_test : Span → Option (Result Found Failure) → Option Failure
given_test span None = None
given_test span (Some found) = tested_by span found

abbrev pub given_failure : Option (Result Found Failure) → Option Failure
given_failure None = None
given_failure (Some found) = result_err found

abbrev pub parts_by : Told → Option (Result Found Failure) → Option Failure → Option Failure
parts_by init test step = or_else init.failure (or_else (given_failure test) step)

abbrev pub for_by : Span → Told → Option (Result Found Failure) → Option Failure → Option Failure
for_by span init test step = if init.taken then parts_by init test step else or_else (given_test span test) (parts_by init test step)
