-- Where the arguments of the call of an expression lead; none where it has no call.
use Rattle.std.specs.Prelude.{ℕ, Bool, List, Option}
use Rattle.tsa_tree.specs.expressions.Syntax.{Expression}
use Rattle.tsa_tree.specs.types.Scopes.{Scope}
use Rattle.tsa_place_model.specs.Ways.{Way}
use Rattle.tsa_core.specs.Uses.{call_ways, or_none}

abbrev pub arguments_of : (ℕ → Bool) → Scope → Expression → List (Option Way)
arguments_of stable here e = or_none (call_ways stable here e)
