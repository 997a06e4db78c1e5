-- The places of a thing in order (C11 6.2.5p20, 6.7.2.1p15): a struct object comes before its members, which follow in order of
-- declaration, and the elements of an array follow by index, each whole before the next.
use Rattle.std.specs.Prelude.{ℕ, zero, suc, ◌+◌, nat_eq, Bool, true, false, ◌||◌, List, [], ◌∷◌, ◌++◌, length, Option, Some, None}
use Rattle.std.specs.Prelude.{if◌then◌else◌}
use Rattle.tsa_base.specs.declared.value.Value.{Value}
use Rattle.tsa_tree.specs.declarations.Syntax.{Initialiser, Initialisers, value, list, no_more, one_more}
use Rattle.tsa_tree.specs.declared.kind.Kind.{Kind}
use Rattle.tsa_tree.specs.declared.kind.Kind.TheVariants as type
use Rattle.tsa_tree.specs.declared.kind.ThingType.{ThingType}
pub use Rattle.tsa_place_model.specs.declared.place.Holder.{Holder}
pub use Rattle.tsa_place_model.specs.declared.place.Holder.TheVariants.{Global, Member}
pub use Rattle.tsa_place_model.specs.declared.place.Placed.{Placed}
use Rattle.tsa_place_model.specs.Layouts.{Part, Structures, kind_size, size_of, thing_size}

-- what a part has from where it lies: what declares it, whether it is `const` or guarded, and its initialiser where one is written
pub record Given : Type 0 where
  pub holder : Holder
  pub is_const : Bool
  pub is_guarded : Bool
  pub init : Option Initialiser

-- the item of a number in an initialiser's list
abbrev pub item_at : Initialisers → ℕ → Option Initialiser
item_at no_more k = None
item_at (one_more first rest) zero = Some first
item_at (one_more first rest) (suc k) = item_at rest k

abbrev pub item_of : Option Initialiser → ℕ → Option Initialiser
item_of None k = None
item_of (Some (value e)) k = None
item_of (Some (list items span)) k = item_at items k

abbrev pub has_some : {A : Type 0} → List A → Bool
has_some [] = false
has_some (x ∷ rest) = true

-- what an initialiser, or none, gives to a cell of a kind
abbrev pub Values : Type 0
Values = Kind → Option Initialiser → Value

-- a place alone
abbrev pub a_place : Values → Given → Option ℕ → Kind → Placed
a_place values g index kind = record { holder = g.holder; index = index; kind = kind; is_const = g.is_const; is_guarded = g.is_guarded; initial = values kind g.init }

-- the element of an index has the item of that number
abbrev pub element_of : Given → ℕ → Given
element_of g i = record { holder = g.holder; is_const = g.is_const; is_guarded = g.is_guarded; init = item_of g.init i }

-- a member of the object at a place is `const` or guarded where the object is, or where its own declaration says so
abbrev pub member_of : Given → (owner : ℕ) → (number : ℕ) → Part → Given
member_of g owner number m = record {
  holder = Member owner number;
  is_const = g.is_const || m.thing.is_const;
  is_guarded = g.is_guarded || has_some m.guards;
  init = item_of g.init number;
}

-- the places of the members of a struct object: of which struct, at which place, and what it has from where it lies
abbrev pub Inside : Type 0
Inside = ℕ → ℕ → Given → List Placed

module _ (inside : Inside) (size : ℕ → ℕ) (values : Values) where
  abbrev pub kind_places : Given → Option ℕ → ℕ → Kind → List Placed
  kind_places g index o (type.Structure n) = a_place values g index (type.Structure n) ∷ inside n o g
  kind_places g index o kind = a_place values g index kind ∷ []

  -- so many elements of a kind, from the one of an index on, which begins at a place
  abbrev pub elements_places : Given → ℕ → ℕ → ℕ → Kind → List Placed
  elements_places g zero i o kind = []
  elements_places g (suc n) i o kind = kind_places (element_of g i) (Some i) o kind ++ elements_places g n (suc i) (o + kind_size size kind) kind

  abbrev pub pieces : Given → ℕ → Kind → Option ℕ → List Placed
  pieces g o kind None = kind_places g None o kind
  pieces g o kind (Some n) = elements_places g n 0 o kind

  abbrev pub thing_places : Given → ℕ → ThingType → List Placed
  thing_places g o t = pieces g o t.kind t.length

  -- members from the one of a number on, which begins at a place, of the object at another
  abbrev pub members_places : Given → (owner : ℕ) → (number : ℕ) → ℕ → List Part → List Placed
  members_places g owner k o [] = []
  members_places g owner k o (m ∷ rest) = thing_places (member_of g owner k m) o m.thing ++ members_places g owner (suc k) (o + thing_size size m.thing) rest

unfoldable pub places_inside : Structures → Values → Inside
places_inside [] values n o g = []
places_inside (s ∷ earlier) values n o g =
    if nat_eq n (length earlier)
    then members_places (places_inside earlier values) (size_of earlier) values g o 0 (o + 1) s.members
    else places_inside earlier values n o g

-- the places of a thing whose first one has a number
abbrev pub places_of : Structures → Values → Given → ℕ → ThingType → List Placed
places_of structs values g o t = thing_places (places_inside structs values) (size_of structs) values g o t
