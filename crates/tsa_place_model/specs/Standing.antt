-- Where the parts of a thing stand among the places of a unit.
use Rattle.std.specs.Prelude.{◌≡◌, ℕ, ◌+◌, ◌*◌, ◌<◌, List, [], ◌∷◌, ◌++◌, length, drop, Option, Some, None, slice_get}
use Rattle.tsa_tree.specs.declared.kind.Kind.{Kind}
use Rattle.tsa_tree.specs.declared.kind.Kind.TheVariants as type
use Rattle.tsa_tree.specs.declared.kind.ThingType.{ThingType}
use Rattle.tsa_place_model.specs.Layouts.{Part, Structures, structure_at, kind_size, size_of, offset}
use Rattle.tsa_place_model.specs.Places.{Placed, Given, Values, element_of, member_of, kind_places, elements_places, thing_places}
use Rattle.tsa_place_model.specs.Places.{places_inside}

-- from the place of a number on stand some places
abbrev pub StandsAt : List Placed → ℕ → List Placed → Type 0
StandsAt all o part = (rest : List Placed) × (drop o all ≡ part ++ rest)

-- a struct used by value is defined earlier
abbrev pub IsBelow : ℕ → Kind → Type 0
IsBelow n (type.Structure s) = s < n
IsBelow n _ = Unit {0}

-- an array has an element
abbrev pub HasSome : Option ℕ → Type 0
HasSome None = Unit {0}
HasSome (Some n) = 0 < n

abbrev pub IsWithin : ℕ → ThingType → Type 0
IsWithin n t = IsBelow n t.kind × HasSome t.length

abbrev pub AllBelow : ℕ → List Part → Type 0
AllBelow n [] = Unit {0}
AllBelow n (m ∷ rest) = IsWithin n m.thing × AllBelow n rest

unfoldable pub IsOrdered : Structures → Type 0
IsOrdered [] = Unit {0}
IsOrdered (s ∷ earlier) = AllBelow (length earlier) s.members × IsOrdered earlier

-- an object of a struct with its members
abbrev pub object_places : Structures → Values → Given → Option ℕ → ℕ → ℕ → List Placed
object_places structs values g index o n = kind_places (places_inside structs values) (size_of structs) values g index o (type.Structure n)

-- a member of the object at a place stands so far behind it ..
abbrev pub MemberStands : Type 0
MemberStands = (structs : Structures) (values : Values) (all : List Placed) (g : Given) (index : Option ℕ) (o n k : ℕ) (m : Part) → IsOrdered structs → n < length structs
    → slice_get (structure_at structs n).members k ≡ Some m → StandsAt all o (object_places structs values g index o n)
    → StandsAt all (o + 1 + offset (size_of structs) (structure_at structs n).members k)
    (thing_places (places_inside structs values) (size_of structs) values (member_of g o k m) (o + 1 + offset (size_of structs) (structure_at structs n).members k) m.thing)

-- .. and an element so many times the size of one behind the first
abbrev pub ElementStands : Type 0
ElementStands = (structs : Structures) (values : Values) (all : List Placed) (g : Given) (o i n : ℕ) (kind : Kind) → i < n
    → StandsAt all o (elements_places (places_inside structs values) (size_of structs) values g n 0 o kind)
    → StandsAt all (o + i * kind_size (size_of structs) kind)
    (kind_places (places_inside structs values) (size_of structs) values (element_of g i) (Some i) (o + i * kind_size (size_of structs) kind) kind)
