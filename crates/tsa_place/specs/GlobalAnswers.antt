-- What an answer says of the places of one global.
use Rattle.std.specs.Prelude.{◌≡◌, ℕ, true, false, List, [], ◌∷◌, ◌++◌, Option, Result, Ok, Err, ⊤}
use Rattle.tsa_tree.specs.declarations.Syntax.{Initialiser}
use Rattle.tsa_tree.specs.types.Scopes.{Scope}
use Rattle.tsa_place.specs.declared.refusal.PlaceRefusal.{PlaceRefusal}
use Rattle.tsa_place.specs.declared.refusal.PlaceRefusal.TheVariants.{TooMany, NoMemory}
use Rattle.tsa_place_model.specs.Layouts.{Part}
use Rattle.tsa_place_model.specs.declared.place.Placed.{Placed}
use Rattle.tsa_place_model.specs.Calls.{Layout}
use Rattle.tsa_place_model.specs.GlobalPlaces.{passes, with_part}

-- more places behind others
abbrev pub with_places : List Placed → Layout → Layout
with_places places l = record { structs = l.structs; globals = l.globals; starts = l.starts; places = l.places ++ places }

-- a further global with its first place
abbrev pub with_kept : Part → ℕ → Layout → Layout
with_kept part start l = record { structs = l.structs; globals = l.globals ++ part ∷ []; starts = l.starts ++ start ∷ []; places = l.places }

-- a global is added, or it is one too many; nothing is said where memory is wanted
abbrev pub Adds : Scope → Part → Option Initialiser → Layout → Layout → Result ⊤ PlaceRefusal → Type 0
Adds here part init old new (Ok u) = (passes old part ≡ false) × (new ≡ with_part here part init old)
Adds here part init old new (Err (TooMany span)) = (passes old part ≡ true) × (span ≡ part.span)
Adds here part init old new (Err NoMemory) = Unit {0}
