-- To which places the globals, members and elements of a unit lead, that each place has one way to it, and that its text tells which place
-- it is.
use Rattle.std.specs.Prelude.{◌≡◌, ℕ, ◌+◌, ◌*◌, ◌<◌, List, Option, Some, None, option_and_then, slice_get, length, Ok}
use Rattle.tsa_tree.specs.types.Units.{refusal_of_types}
use Rattle.tsa_tree.specs.units.Sound.{SpellableItems}
use Rattle.tsa_tree.specs.units.Syntax.{UnitItem}
use Rattle.tsa_place_model.specs.declared.place.Holder.{Holder}
use Rattle.tsa_place_model.specs.declared.place.Holder.TheVariants.{Global, Member}
use Rattle.tsa_place_model.specs.declared.place.Placed.{Placed}
use Rattle.tsa_place_model.specs.Layouts.{Part, kind_size, size_of, offset}
use Rattle.tsa_place_model.specs.Calls.{Layout, global_place, member_place, element_place, members_of, part_of, text_of}
use Rattle.tsa_place_model.specs.Units.{laid_in, placed_in}

-- where a global, or a member of the object at a place, begins
abbrev pub first_place : Layout → Holder → Option ℕ
first_place l (Global n) = global_place l n
first_place l (Member owner k) = member_place l owner k

-- a place that is no element of an array
abbrev pub if_alone : ℕ → Option ℕ → Option ℕ
if_alone place None = Some place
if_alone place (Some i) = None

abbrev pub alone : Layout → ℕ → Option ℕ
alone l place = option_and_then (λ p. if_alone place p.index) (slice_get l.places place)

-- what begins at a place, alone or as the element of an index
abbrev pub piece : Layout → ℕ → Option ℕ → Option ℕ
piece l place None = alone l place
piece l place (Some i) = element_place l place i

-- to which place a global or a member leads, alone or with the index of an element
abbrev pub leads_to : Layout → Holder → Option ℕ → Option ℕ
leads_to l holder index = option_and_then (λ place. piece l place index) (first_place l holder)

-- a way to a place: a global by its number, and then members by theirs, each alone or with an index
pub data Route : Type 0 where
  from_global : (n : ℕ) (index : Option ℕ) → Route
  to_member : (outer : Route) (k : ℕ) (index : Option ℕ) → Route

unfoldable pub reached : Layout → Route → Option ℕ
reached l (from_global n index) = leads_to l (Global n) index
reached l (to_member outer k index) = option_and_then (λ owner. leads_to l (Member owner k) index) (reached l outer)

-- an element has an index below the length of its array, and what is no array has none
abbrev pub Fits : Option ℕ → Option ℕ → Type 0
Fits None None = Unit {0}
Fits (Some n) (Some i) = i < n
Fits _ _ = ⊥

-- a member stands behind the object that it lies in
abbrev pub IsInside : Holder → ℕ → Type 0
IsInside (Global n) place = Unit {0}
IsInside (Member owner k) place = owner < place

-- a place has what declares it, which leads to it
pub record StandsIn (l : Layout) (place : ℕ) (p : Placed) : Type 0 where
  pub part : Part
  pub declared : part_of l p.holder ≡ Some part
  pub kind : p.kind ≡ part.thing.kind
  pub fits : Fits part.thing.length p.index
  pub led : leads_to l p.holder p.index ≡ Some place
  pub inside : IsInside p.holder place

-- the places of a unit, however many there are
abbrev pub HasPlaces : List UnitItem → Layout → Type 0
HasPlaces items l = laid_in items ≡ l

-- a unit that has no more places than it may have has those
abbrev pub PlacedUnitsAreLaid : Type 0
PlacedUnitsAreLaid = (items : List UnitItem) (l : Layout) → placed_in items ≡ Ok l → HasPlaces items l

-- what declares a place leads to it
abbrev pub PlacesAreLedTo : Type 0
PlacesAreLedTo = (items : List UnitItem) (l : Layout) (place : ℕ) (p : Placed) → HasPlaces items l → slice_get l.places place ≡ Some p → StandsIn l place p

-- where a global or a member leads, a place stands that it declares, of that index
abbrev pub WhatIsLedToBears : Type 0
WhatIsLedToBears = (items : List UnitItem) (l : Layout) (holder : Holder) (index : Option ℕ) (place : ℕ) → HasPlaces items l → leads_to l holder index ≡ Some place
    → (p : Placed) × (slice_get l.places place ≡ Some p) × (p.holder ≡ holder) × (p.index ≡ index)

-- each member of a struct object begins so far behind it, at a place of the unit
abbrev pub MembersHavePlaces : Type 0
MembersHavePlaces = (items : List UnitItem) (l : Layout) (place k : ℕ) (p : Placed) (m : Part) → HasPlaces items l → slice_get l.places place ≡ Some p
    → slice_get (members_of l p.kind) k ≡ Some m → member_place l place k ≡ Some (place + 1 + offset (size_of l.structs) (members_of l p.kind) k)

-- each element of an array begins so far behind its first one, at a place of the unit
abbrev pub ElementsHavePlaces : Type 0
ElementsHavePlaces = (items : List UnitItem) (l : Layout) (place i n : ℕ) (p : Placed) (part : Part) → HasPlaces items l → slice_get l.places place ≡ Some p
    → p.index ≡ Some 0 → part_of l p.holder ≡ Some part → part.thing.length ≡ Some n → i < n
    → element_place l place i ≡ Some (place + i * kind_size (size_of l.structs) p.kind)

-- a place has a way from a global, and no other
pub record HasOneWay (l : Layout) (place : ℕ) : Type 0 where
  pub way : Route
  pub there : reached l way ≡ Some place
  pub only : (other : Route) → reached l other ≡ Some place → other ≡ way

abbrev pub OneWay : Type 0
OneWay = (items : List UnitItem) (l : Layout) (place : ℕ) → HasPlaces items l → place < length l.places → HasOneWay l place

-- two places of a typed unit whose texts are the same are the same
abbrev pub TextsTell : Type 0
TextsTell = (items : List UnitItem) (l : Layout) (a b : ℕ) → SpellableItems items → refusal_of_types items ≡ None → HasPlaces items l
    → a < length l.places → b < length l.places → text_of l a ≡ text_of l b → a ≡ b
