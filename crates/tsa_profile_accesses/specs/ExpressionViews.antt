-- What is seen of an expression on the way to its cells.
use Rattle.std.specs.Prelude.{ℕ, Bool, true, false, ◌&&◌, List, [], ◌∷◌, ◌++◌, Option, None, option_map, option_and_then, if◌then◌else◌}
use Rattle.tsa_tree.specs.declared.kind.ExpressionType.{ExpressionType}
use Rattle.tsa_tree.specs.expressions.Syntax.{Expression}
use Rattle.tsa_tree.specs.types.Expressions.{owner}
use Rattle.tsa_tree.specs.types.Scopes.{Scope}
use Rattle.tsa_place_model.specs.LockPaths.{Led, leads, meant, member_step}
use Rattle.tsa_place_model.specs.Ways.{Way}
use Rattle.tsa_place_model.specs.Calls.{Layout}
use Rattle.tsa_core.specs.Cells.{cells_read, inner_cells}
use Rattle.tsa_core.specs.Meanings.{is_cell, is_place, meaning, null_pointer, of_field, of_type}
use Rattle.tsa_core.specs.Terms.{Sense}
use Rattle.tsa_core.specs.Uses.{access_guards, field_guards}
use Rattle.tsa_profile_accesses.specs.Accesses.{Access}
use Rattle.tsa_profile_accesses.specs.declared.thing.Thing.{Thing}

-- the type of what an expression means, and whether that is a place
abbrev pub thing_of : Sense → Thing
thing_of s = record { expression = s.type; is_place = is_place s.term }

-- what has a type and no place
abbrev pub value_of : ExpressionType → Thing
value_of t = record { expression = t; is_place = false }

-- what has a type alone: what it is made into has a type and a place by that
abbrev pub typed : ExpressionType → Sense
typed t = of_type null_pointer t

-- the access of a thing that is a cell; no other has one
abbrev pub own_access : Thing → Access → List Access
own_access thing a = if thing.is_place && is_cell thing.expression.thing then a ∷ [] else []

-- an expression's type, where it leads, and the guards of its access
pub record Seen : Type 0 where
  pub thing : Thing
  pub led : Option Led
  pub guards : List (Option Way)

unfoldable pub seen_of : Layout → (ℕ → Bool) → Scope → (as_pointer : Bool) → Expression → Seen
seen_of l stable here as_pointer e = record {
  thing = thing_of (meaning here e);
  led = leads stable here as_pointer e;
  guards = access_guards l stable here e;
}

-- a value, which leads nowhere
abbrev pub a_value : Thing → Seen
a_value thing = record { thing = thing; led = None; guards = [] }

-- the same where its value is used: what is behind a pointer has no guards of the pointer
abbrev pub loaded : Seen → Seen
loaded s = record { thing = s.thing; led = s.led; guards = [] }

-- the same before a member's name: a pointer before an arrow is used
abbrev pub behind : (arrow : Bool) → Seen → Seen
behind true s = loaded s
behind false s = s

abbrev pub cells_behind : (arrow : Bool) → Scope → Expression → List Expression
cells_behind true here e = cells_read here e
cells_behind false here e = inner_cells here e

-- the same as a place, or as what a pointer there points to
abbrev pub meant_as : Bool → Seen → Seen
meant_as as_pointer s = record { thing = s.thing; led = meant as_pointer s.led; guards = s.guards }

-- a member of it, behind a point or an arrow
abbrev pub member_of : Layout → Scope → Bool → List ℕ → Seen → Seen
member_of l here arrow name s = record {
  thing = thing_of (of_field here arrow name (typed s.thing.expression));
  led = option_and_then (member_step here name) s.led;
  guards = s.guards ++ field_guards l here (option_map (λ led. led.way) s.led) name (owner arrow s.thing.expression);
}
