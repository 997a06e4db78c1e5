-- That no premise of types fails for the initialiser of a cell, by a test.
use Rattle.std.proofs.Common.{◌≡◌, ◌∙◌, Bool, true, false, not, Option, Some, None, is_some, is_none, refl, ap}
use Rattle.tsa_tree.specs.declarations.Syntax.{value}
use Rattle.tsa_tree.specs.declared.kind.ThingType.{ThingType}
use Rattle.tsa_tree.specs.declared.premise.Failure.{Failure}
use Rattle.tsa_tree.specs.expressions.Syntax.{Expression}
use Rattle.tsa_tree.specs.types.Initialisers.{initialiser_premises}
use Rattle.tsa_tree.specs.types.Premises.{first}
use Rattle.tsa_tree.specs.types.Scopes.{Scope}
use Rattle.tsa_profile.specs.Arguments.{is_typed}

none_by : (x : Option Failure) (b : Bool) → is_some x ≡ not b → b ≡ is_none x
none_by None true h = refl
none_by None false h = absurd cc
none_by (Some f) true h = absurd cc
none_by (Some f) false h = refl

pub typed : (here : Scope) (thing : ThingType) (e : Expression) (failure : Option Failure) (fits : Bool)
    → failure ≡ first (initialiser_premises here here.globals (Some thing) (value e)) → is_some failure ≡ not fits → fits ≡ is_typed here thing e
typed here thing e failure fits judged is = none_by failure fits is ∙ ap is_none judged
