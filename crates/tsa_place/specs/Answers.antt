-- What an answer says of places.
use Rattle.std.specs.Prelude.{◌≡◌, Some, None, Result, Ok, Err, ⊤}
use Rattle.tsa_base.specs.declared.token.Span.{Span}
use Rattle.tsa_tree.specs.types.Scopes.{Scope}
use Rattle.tsa_tree.specs.units.Syntax.{UnitItem}
use Rattle.tsa_place.specs.declared.refusal.PlaceRefusal.{PlaceRefusal}
use Rattle.tsa_place.specs.declared.refusal.PlaceRefusal.TheVariants.{TooMany, NoMemory}
use Rattle.tsa_place_model.specs.Calls.{Layout}
use Rattle.tsa_place_model.specs.Items.{behind_data}
use Rattle.tsa_place_model.specs.Units.{data_placed, too_many_at}

-- an item is gone through, or there are too many places at a declarator in it
abbrev pub Places : Scope → Layout → UnitItem → Scope → Layout → Result ⊤ PlaceRefusal → Type 0
Places here l item there m (Ok u) = (too_many_at here l item ≡ None) × ((there ≡ behind_data here item) × (m ≡ data_placed here l item))
Places here l item there m (Err (TooMany span)) = too_many_at here l item ≡ Some span
Places here l item there m (Err NoMemory) = Unit {0}

-- the places are these, or the declarator at which there are too many is this; nothing is said where memory is wanted
abbrev pub Gives : Result Layout Span → Result Layout PlaceRefusal → Type 0
Gives found (Ok l) = found ≡ Ok l
Gives found (Err (TooMany span)) = found ≡ Err span
Gives found (Err NoMemory) = Unit {0}

-- .. of the items of a list
abbrev pub GivesAll : Result Layout Span → Layout → Result ⊤ PlaceRefusal → Type 0
GivesAll found l (Ok u) = found ≡ Ok l
GivesAll found l (Err (TooMany span)) = found ≡ Err span
GivesAll found l (Err NoMemory) = Unit {0}
