-- Actions worked out.
use Rattle.std.proofs.Common.{[], ◌∷◌, refl, arith}
use Rattle.tsa_exec_actions.specs.Actions.{givings, takings}
use Rattle.tsa_exec_actions.specs.Chains.{after, none}
use Rattle.tsa_exec_actions.specs.Examples.{ActionsAreAsWritten, giving, taking, taking_of_another}

pub as_written : ActionsAreAsWritten
unfolding givings takings
as_written = record {
  both = after 2 giving (taking ∷ []) (omega arith) refl (after 0 taking [] (omega arith) refl (none (omega arith)));
  one = after 2 giving [] (omega arith) refl (none (omega arith));
  nothing = none (omega arith);
  of_another = after 1 taking_of_another [] (omega arith) refl (none (omega arith));
  taken = refl;
  given = refl;
  in_other_mode = refl;
  other_lock = refl;
  told = refl;
  tried = refl;
  in_vain = refl;
  waited = refl;
}
