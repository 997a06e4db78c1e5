-- The places of a thing fit behind others, or there are too many.
use Rattle.std.proofs.Common.{◌≡◌, ◌∙◌, ℕ, zero, suc, ◌+◌, ◌*◌, ◌≤◌, ◌<◌, arith, true, false, List, [], ◌∷◌, ◌++◌, length, Option, Some, None}
use Rattle.std.proofs.Common.{slice_get, refl, ap}
use Rattle.std.proofs.lemmas.Bool.Decides.{nat_tests}
use Rattle.std.proofs.lemmas.List.{length-append}
use Rattle.std.proofs.lemmas.Option.{slice_get_within}
use Rattle.tsa_tree.specs.declared.kind.Kind.{Kind}
use Rattle.tsa_tree.specs.declared.kind.Kind.TheVariants as type
use Rattle.tsa_tree.specs.declared.kind.ThingType.{ThingType}
use Rattle.tsa_place.specs.declared.filling.Origin.{Origin}
use Rattle.tsa_place.specs.declared.filling.One.{One}
use Rattle.tsa_place.specs.declared.filling.Members.{Members}
use Rattle.tsa_place.specs.declared.filling.Left.TheVariants as left
use Rattle.tsa_place.specs.declared.filling.Rows.{Rows}
use Rattle.tsa_place.specs.declared.environment.Known.{Known}
use Rattle.tsa_place_model.specs.Layouts.{Part, Structures, structure_at, kind_size, times, size_of, thing_size, members_size, capped}
use Rattle.tsa_place_model.specs.Places.{Given, Values, kind_places, places_inside, places_of}
use Rattle.tsa_place_model.specs.declared.place.Placed.{Placed}
use Rattle.tsa_place_model.specs.Calls.{Layout}
use Rattle.tsa_place_model.specs.Parts.{place_limit}
use Rattle.tsa_place_model.specs.GlobalPlaces.{passes}
use Rattle.tsa_place_model.specs.Standing.{HasSome, AllBelow, IsOrdered}
use Rattle.tsa_place.specs.Filling.{given, all_left, IsPlaceable, values_by, with_one, with_thing, Fits}
use Rattle.tsa_place_model.proofs.Sizes.{kind_sized, thing_sized, inside_sized}
use Rattle.tsa_place_model.proofs.Standing.{members_below}
use Rattle.tsa_place.proofs.Putting.{object_size}

pub as_many : (structs : Structures) (values : Values) (g : Given) (o : ℕ) (t : ThingType) (old new : List Placed) → new ≡ old ++ places_of structs values g o t
    → length new ≡ length old + thing_size (size_of structs) t
as_many structs values g o t old new is =
    let size = thing_sized (places_inside structs values) (size_of structs) values (inside_sized structs values) g o t in
    let long : length new ≡ length old + length (places_of structs values g o t) = ap length is ∙ length-append old (places_of structs values g o t) in
    omega (arith, size, long)

pub ruleset many = (as_many)

-- the places of a thing behind others are no more than a unit may have where their number isn't
pub many_fit : (structs : Structures) (values : Values) (g : Given) (old : List Placed) (t : ThingType) → length old + thing_size (size_of structs) t ≤ place_limit
    → length (old ++ places_of structs values g (length old) t) ≤ place_limit
many_fit structs values g old t h =
    let long = as_many structs values g (length old) t old (old ++ places_of structs values g (length old) t) refl in omega (arith, long, h)

-- the places of a thing fit where nothing else is left
pub alone_fits : (k : Known) (rows : Rows) (from : Origin) (t : ThingType) → rows.left.items ≡ [] → length rows.places.items + thing_size (size_of k.structs.now) t ≤ place_limit
    → Fits rows (with_thing k rows from t)
alone_fits k rows from t alone h =
    let values = values_by k rows.places.items in
    let own = places_of k.structs.now values (given from) (length rows.places.items) t in
    let rest = all_left k.structs.now values rows.left.items (length rows.places.items + thing_size (size_of k.structs.now) t) in
    let size = thing_sized (places_inside k.structs.now values) (size_of k.structs.now) values (inside_sized k.structs.now values) (given from) (length rows.places.items) t in
    let none : length rest ≡ 0 =
    ap (λ ls. length (all_left k.structs.now values ls (length rows.places.items + thing_size (size_of k.structs.now) t))) alone in
    let all = length-append rows.places.items (own ++ rest) in
    let both = length-append own rest in
    omega (arith, size, none, all, both, h)

-- an object among places that fit is no larger than they are
pub object_small : (k : Known) (rows : Rows) (one : One) (n : ℕ) → one.kind ≡ type.Structure n → Fits rows (with_one k rows one) → size_of k.structs.now n ≤ place_limit
object_small k rows one n is h =
    let values = values_by k rows.places.items in
    let own = kind_places (places_inside k.structs.now values) (size_of k.structs.now) values (given one.from) one.index (length rows.places.items) one.kind in
    let rest = all_left k.structs.now values rows.left.items (length rows.places.items + kind_size (size_of k.structs.now) one.kind) in
    let size : length own ≡ size_of k.structs.now n =
    kind_sized (places_inside k.structs.now values) (size_of k.structs.now) values (inside_sized k.structs.now values) (given one.from) one.index (length rows.places.items) one.kind
    ∙ ap (kind_size (size_of k.structs.now)) is in
    let all = length-append rows.places.items (own ++ rest) in
    let both = length-append own rest in
    omega (arith, size, all, both, h)

-- a thing takes a place at least, and members as many as they are
module _ (size : ℕ → ℕ) (some : (n : ℕ) → 0 < size n) where
  kind_some : (kind : Kind) → 0 < kind_size size kind
  kind_some (type.Structure n) = some n
  kind_some type.Int = omega arith
  kind_some type.Unsigned = omega arith
  kind_some type.Void = omega arith
  kind_some (type.Pointer target to_const) = omega arith
  kind_some type.Null = omega arith
  kind_some type.Function = omega arith

  times_some : (l : Option ℕ) (z : ℕ) → 0 < z → HasSome l → 0 < times l z
  times_some None z h has = h
  times_some (Some zero) z h has = absurd (omega (arith, has))
  times_some (Some (suc n)) z h has = let more : suc n * z ≡ z + n * z = grind arith in omega (arith, more, h)

  as_many_members : (n : ℕ) (ms : List Part) → AllBelow n ms → length ms ≤ members_size size ms
  as_many_members n [] below = omega arith
  as_many_members n (m ∷ ms) below =
      let one = times_some m.thing.length (kind_size size m.thing.kind) (kind_some m.thing.kind) below.0.1 in
      let rest = as_many_members n ms below.1 in
      omega (arith, one, rest)

-- a member's number is below the number of places that its object takes
pub number_small : (k : Known) (rows : Rows) (m : Members) → IsOrdered k.structs.now → IsPlaceable k.structs.now (left.Members m) → (part : Part)
    → slice_get (structure_at k.structs.now m.structure).members m.number ≡ Some part → m.number < place_limit
number_small k rows m ordered placeable part at =
    let all = k.structs.now in
    let values = values_by k rows.places.items in
    let some : (n : ℕ) → 0 < size_of all n = λ n. let one = inside_sized all values n 0 (given m.from) in omega (arith, one) in
    let whole = object_size all values (given m.from) m.structure 0 ordered placeable.0 in
    let many = as_many_members (size_of all) some (length all) (structure_at all m.structure).members (members_below all m.structure ordered) in
    let within = slice_get_within (structure_at all m.structure).members m.number part at in
    let few = placeable.1 in
    omega (arith, whole, many, within, few)

pub still_fits : (old new size : ℕ) → new ≡ old + size → old + size ≤ place_limit → new ≤ place_limit
still_fits old new size is fits = omega (arith, is, fits)

-- a size that stops passes the limit where the size does
pub over_limit : (l : Layout) (part : Part) (start size : ℕ) → start ≡ length l.places → size ≡ capped (thing_size (size_of l.structs) part.thing) → 65536 < start + size → passes l part ≡ true
over_limit l part start size s n h =
    let over : 65536 < length l.places + thing_size (size_of l.structs) part.thing = omega (arith, s, n, h) in
    grind (arith, nat_tests, over)

pub within_limit : (l : Layout) (part : Part) (start size : ℕ) → start ≡ length l.places → size ≡ capped (thing_size (size_of l.structs) part.thing) → start + size ≤ 65536
    → length l.places + thing_size (size_of l.structs) part.thing ≤ place_limit
within_limit l part start size s n h = omega (arith, s, n, h)

pub passes_not : (l : Layout) (part : Part) → length l.places + thing_size (size_of l.structs) part.thing ≤ place_limit → passes l part ≡ false
passes_not l part h = grind (arith, nat_tests, h)
