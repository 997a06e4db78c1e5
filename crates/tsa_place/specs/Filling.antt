-- What of a thing has no place yet, and which places are put one after another.
use Rattle.std.specs.Prelude.{◌≡◌, ℕ, ◌+◌, ◌-◌, ◌*◌, ◌<◌, ◌≤◌, List, [], ◌∷◌, ◌++◌, drop, take, length, option_map}
use Rattle.tsa_tree.specs.declarations.Shapes.{init_shape}
use Rattle.tsa_place.specs.declared.filling.Origin.{Origin}
use Rattle.tsa_place.specs.declared.filling.One.{One}
use Rattle.tsa_place.specs.declared.filling.Members.{Members}
use Rattle.tsa_place.specs.declared.filling.Left.{Left}
use Rattle.tsa_place.specs.declared.filling.Left.TheVariants as left
use Rattle.tsa_place.specs.declared.filling.Rows.{Rows}
use Rattle.tsa_place.specs.declared.environment.Known.{Known}
use Rattle.tsa_place_model.specs.Layouts.{Part, Structures, structure_at, kind_size, thing_size, size_of, members_size}
use Rattle.tsa_place_model.specs.Places.{Given, Values, kind_places, elements_places, members_places, thing_places, places_inside}
use Rattle.tsa_place_model.specs.declared.place.Placed.{Placed}
use Rattle.tsa_place_model.specs.Calls.{Layout}
use Rattle.tsa_place_model.specs.Parts.{place_limit}
use Rattle.tsa_place_model.specs.GlobalPlaces.{values_in}
use Rattle.tsa_place_model.specs.Standing.{IsBelow, IsOrdered}
use Rattle.tsa_tree.specs.declared.kind.ThingType.{ThingType}

-- what a part has from where it lies, with its initialiser as a tree
abbrev pub given : Origin → Given
given f = record { holder = f.holder; is_const = f.is_const; is_guarded = f.is_guarded; init = option_map (λ x. init_shape x.now) f.init }

module _ (structs : Structures) where
  abbrev pub members_left : Members → List Part
  members_left m = drop m.number (structure_at structs m.structure).members

  -- how many places they take ..
  abbrev pub size_left : Left → ℕ
  size_left (left.Elements e) = (e.end - e.index) * kind_size (size_of structs) e.kind
  size_left (left.Members m) = members_size (size_of structs) (members_left m)

  abbrev pub sizes_left : List Left → ℕ
  sizes_left [] = 0
  sizes_left (l ∷ above) = sizes_left above + size_left l

  -- .. and which, from a place on: what lies above comes first
  abbrev pub one_left : Values → Left → ℕ → List Placed
  one_left values (left.Elements e) o = elements_places (places_inside structs values) (size_of structs) values (given e.from) (e.end - e.index) e.index o e.kind
  one_left values (left.Members m) o = members_places (places_inside structs values) (size_of structs) values (given m.from) m.owner m.number o (members_left m)

  abbrev pub all_left : Values → List Left → ℕ → List Placed
  all_left values [] o = []
  all_left values (l ∷ above) o = all_left values above o ++ one_left values l (o + sizes_left above)

  -- how many elements or members these are
  abbrev pub things_left : Left → ℕ
  things_left (left.Elements e) = e.end - e.index
  things_left (left.Members m) = length (members_left m)

  -- its structs are defined, and an object takes no more places than a unit may have
  abbrev pub IsPlaceable : Left → Type 0
  IsPlaceable (left.Elements e) = IsBelow (length structs) e.kind
  IsPlaceable (left.Members m) = (m.structure < length structs) × (size_of structs m.structure ≤ place_limit)

  -- .. and something of it has no place
  abbrev pub IsLeft : Left → Type 0
  IsLeft l = IsPlaceable l × (0 < things_left l)

  abbrev pub AreLeft : List Left → Type 0
  AreLeft [] = Unit {0}
  AreLeft (l ∷ above) = IsLeft l × AreLeft above

-- what lies above others comes first
pub record Leaves (structs : Structures) (old new : List Left) (l : Left) : Type 0 where
  pub told : (values : Values) (o : ℕ) → all_left structs values new o ≡ one_left structs values l o ++ all_left structs values old (o + size_left structs l)
  pub left : AreLeft structs old → AreLeft structs new

-- what is known of the globals before one
abbrev pub before : Known → List Placed → Layout
before k places = record { structs = k.structs.now; globals = k.globals.now; starts = k.starts.now; places = take k.count places }

abbrev pub values_by : Known → List Placed → Values
values_by k places = values_in k.scope.now (before k places)

-- the places of a thing that begins behind some places, and what is left then
abbrev pub and_left : Known → Rows → ℕ → List Placed → List Placed
and_left k rows n own = own ++ all_left k.structs.now (values_by k rows.places.items) rows.left.items (length rows.places.items + n)

module _ (k : Known) (rows : Rows) where
  abbrev structs : Structures
  structs = k.structs.now

  abbrev values : Values
  values = values_by k rows.places.items

  abbrev here : ℕ
  here = length rows.places.items

  abbrev pub with_one : One → List Placed
  with_one one = and_left k rows (kind_size (size_of structs) one.kind) (kind_places (places_inside structs values) (size_of structs) values (given one.from) one.index here one.kind)

  abbrev pub with_left : Left → List Placed
  with_left l = and_left k rows (size_left structs l) (one_left structs values l here)

  abbrev pub with_thing : Origin → ThingType → List Placed
  with_thing from t = and_left k rows (thing_size (size_of structs) t) (thing_places (places_inside structs values) (size_of structs) values (given from) here t)

-- structs hold by value what is defined before them, the places of earlier globals are among those that are there, and something of all
-- that is left has no place
pub record IsReady (k : Known) (rows : Rows) : Type 0 where
  pub ordered : IsOrdered k.structs.now
  pub earlier : k.count ≤ length rows.places.items
  pub left : AreLeft k.structs.now rows.left.items

-- with all that is to come, there are no more places than a unit may have
abbrev pub Fits : Rows → List Placed → Type 0
Fits rows goal = length (rows.places.items ++ goal) ≤ place_limit

-- some places are put after others, and the rest of what is to come is left
pub record Puts (k : Known) (old new : Rows) (goal : List Placed) : Type 0 where
  pub made : new.places.items ++ all_left k.structs.now (values_by k old.places.items) new.left.items (length new.places.items) ≡ old.places.items ++ goal
  pub more : length old.places.items < length new.places.items
  pub kept : take k.count new.places.items ≡ take k.count old.places.items
  pub left : AreLeft k.structs.now new.left.items
