-- What an argument comes to beside its parameter.
use Rattle.std.specs.Prelude.{Bool, false, not, Option, Some, None, Result, Ok, Err}
use Rattle.tsa_tree.specs.types.Operands.{goes_to}
use Rattle.tsa_tree.specs.declared.premise.Failure.{Failure}
use Rattle.tsa_tree.specs.declared.kind.ThingType.{ThingType}
use Rattle.tsa_tree.specs.declared.kind.ExpressionType.{ExpressionType}

-- an argument that has a type can't go to its parameter
abbrev pub cannot_go : Result ExpressionType Failure → Option ThingType → Bool
cannot_go (Ok t) (Some param) = not (goes_to t param)
cannot_go _ _ = false

-- the first premise that fails in it
abbrev pub failed : Result ExpressionType Failure → Option Failure
failed (Ok t) = None
failed (Err failure) = Some failure
