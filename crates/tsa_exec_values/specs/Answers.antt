-- What code answers, as the machine has it: a value, or the trap that stops the thread. Operators on values read no cell.
use Rattle.std.specs.Prelude.{Result, Ok, Err}
use Rattle.tsa_base.specs.declared.value.Value.{Value}
use Rattle.tsa_mean.specs.Outs.{Out, TrapKind, traps, yields}

abbrev pub as_out : Result Value TrapKind → Out Value
as_out (Ok v) = yields v
as_out (Err kind) = traps kind
