-- Places are put one after another: what each step adds, and what it leaves.
use Rattle.std.proofs.Common.{◌≡◌, ◌∙◌, ℕ, zero, suc, ◌+◌, ◌-◌, ◌*◌, ◌<◌, ◌≤◌, arith, List, [], ◌∷◌, ◌++◌, drop, take, length, Some}
use Rattle.std.proofs.Common.{slice_get, Result, Ok, Err, OnOk, sym, ap, subst}
use Rattle.std.specs.Prelude.{⊤}
use Rattle.std.proofs.lemmas.List.{append_assoc, length-append, take-append-le}
use Rattle.tsa_tree.specs.declared.kind.Kind.{Kind}
use Rattle.tsa_tree.specs.declared.kind.Kind.TheVariants as type
use Rattle.tsa_tree.specs.declared.kind.ThingType.{ThingType}
use Rattle.tsa_place.specs.declared.filling.Origin.{Origin}
use Rattle.tsa_place.specs.declared.filling.One.{One}
use Rattle.tsa_place.specs.declared.filling.Elements.{Elements}
use Rattle.tsa_place.specs.declared.filling.Members.{Members}
use Rattle.tsa_place.specs.declared.filling.Left.{Left}
use Rattle.tsa_place.specs.declared.filling.Left.TheVariants as left
use Rattle.tsa_place.specs.declared.filling.Rows.{Rows}
use Rattle.tsa_place.specs.declared.environment.Known.{Known}
use Rattle.tsa_place_model.specs.Layouts.{Part, Structures, structure_at, kind_size, thing_size, size_of, members_size}
use Rattle.tsa_place_model.specs.Places.{Given, Values, a_place, element_of, member_of, kind_places, elements_places, members_places}
use Rattle.tsa_place_model.specs.Places.{thing_places, places_inside}
use Rattle.tsa_place_model.specs.declared.place.Placed.{Placed}
use Rattle.tsa_place_model.specs.Standing.{IsWithin, AllBelow, IsOrdered}
use Rattle.tsa_place.specs.Filling.{given, all_left, AreLeft, Leaves, values_by, with_one, with_left, with_thing}
use Rattle.tsa_place.specs.Filling.{IsReady, Fits, Puts}
use Rattle.tsa_place_model.specs.Parts.{place_limit}
use Rattle.tsa_place_model.proofs.Sizes.{inside_sized, members_sized}
use Rattle.tsa_place_model.proofs.Standing.{members_below, object_is}

-- a member of some that are defined
part_within : (n : ℕ) (ms : List Part) (k : ℕ) (m : Part) → AllBelow n ms → slice_get ms k ≡ Some m → IsWithin n m.thing
part_within n [] k m h e = by k e
  where
    by : (k : ℕ) → slice_get [] k ≡ Some m → IsWithin n m.thing
    by zero e = cc
    by (suc k) e = cc
part_within n (x ∷ ms) zero m h e = let same : x ≡ m = cc in subst (λ y. IsWithin n y.thing) same h.0
part_within n (x ∷ ms) (suc k) m h e = part_within n ms k m h.1 e

pub member_within : (all : Structures) (n k : ℕ) (m : Part) → IsOrdered all → slice_get (structure_at all n).members k ≡ Some m → IsWithin (length all) m.thing
member_within all n k m ordered e = part_within (length all) (structure_at all n).members k m (members_below all n ordered) e

drop_some : (ms : List Part) (k : ℕ) (m : Part) → slice_get ms k ≡ Some m → drop k ms ≡ m ∷ drop (suc k) ms
drop_some [] zero m e = cc
drop_some [] (suc k) m e = cc
drop_some (x ∷ ms) zero m e = let same : x ≡ m = cc in ap (λ y. y ∷ ms) same
drop_some (x ∷ ms) (suc k) m e = drop_some ms k m e

-- an object takes one place more than its members
pub object_size : (all : Structures) (values : Values) (g : Given) (n o : ℕ) → IsOrdered all → n < length all → size_of all n ≡ 1 + members_size (size_of all) (structure_at all n).members
object_size all values g n o ordered h =
    let one = inside_sized all values n o g in
    let whole = ap length (object_is all values n o g ordered h) in
    let many = members_sized (places_inside all values) (size_of all) values (inside_sized all values) g o 0 (o + 1) (structure_at all n).members in
    omega (arith, one, whole, many)

-- the same for places that are the same
module _ (k : Known) (old mid new : Rows) (same : mid.places.items ≡ old.places.items) where
  pub puts_behind : (goal_mid goal_old : List Placed) → goal_mid ≡ goal_old → Puts k mid new goal_mid → Puts k old new goal_old
  puts_behind goal_mid goal_old is p = record {
    made =
        ap (λ ps. new.places.items ++ all_left k.structs.now (values_by k ps) new.left.items (length new.places.items)) (sym same)
        ∙ p.made ∙ ap (λ ps. ps ++ goal_mid) same ∙ ap (λ g. old.places.items ++ g) is;
    more = subst (λ ps. length ps < length new.places.items) same p.more;
    kept = p.kept ∙ ap (take k.count) same;
    left = p.left;
  }

  -- what is ready stays so
  pub ready_still : IsReady k old → AreLeft k.structs.now mid.left.items → IsReady k mid
  ready_still r left = record { ordered = r.ordered; earlier = subst (λ ps. k.count ≤ length ps) (sym same) r.earlier; left = left }

pub fits_behind : (old mid : Rows) → mid.places.items ≡ old.places.items → (goal_mid goal_old : List Placed) → goal_mid ≡ goal_old → Fits old goal_old → Fits mid goal_mid
fits_behind old mid same goal_mid goal_old is h =
    subst (λ n. n ≤ place_limit) (sym (ap length (ap (λ ps. ps ++ goal_mid) same ∙ ap (λ g. old.places.items ++ g) is))) h

-- what follows from two facts that hold where there is no refusal
pub on_both : {E : Type 0} {P Q R : Type 0} (r : Result ⊤ E) → OnOk r P → OnOk r Q → (P → Q → R) → OnOk r R
on_both (Ok u) x y f = f x y
on_both (Err e) x y f = tt

pub on_one : {E : Type 0} {P R : Type 0} (r : Result ⊤ E) → OnOk r P → (P → R) → OnOk r R
on_one (Ok u) x f = f x
on_one (Err e) x f = tt

take_front : (n : ℕ) (xs ys : List Placed) → n ≤ length xs → take n (xs ++ ys) ≡ take n xs
take_front n xs ys h = take-append-le n xs ys h

-- a struct object, of which the members are left
module _ (k : Known) (old new : Rows) (ready : IsReady k old) (one : One) (n : ℕ) (is : one.kind ≡ type.Structure n) (defined : n < length k.structs.now) where
  abbrev all : Structures
  all = k.structs.now

  abbrev values : Values
  values = values_by k old.places.items

  abbrev here : ℕ
  here = length old.places.items

  abbrev inner : Given → ℕ → ℕ → List Part → List Placed
  inner g m o ms = members_places (places_inside all values) (size_of all) values g here m o ms

  abbrev members : List Part
  members = (structure_at all n).members

  abbrev rest : ℕ → List Placed
  rest o = all_left all values old.left.items o

  abbrev goal : Kind → List Placed
  goal kind = kind_places (places_inside all values) (size_of all) values (given one.from) one.index here kind ++ rest (here + kind_size (size_of all) kind)

  abbrev put : Kind → List Placed
  put kind = old.places.items ++ a_place values (given one.from) one.index kind ∷ []

  pub enters_object : (owner : ℕ) (lefts : List Left) → owner ≡ here → new.places.items ≡ put one.kind → lefts ≡ old.left.items
      → Leaves all lefts new.left.items (left.Members (record { from = one.from; owner = owner; number = 0; structure = n })) → Puts k old new (with_one k old one)
  enters_object owner lefts o_is places lefts_are leave =
      let leaves = subst (λ ls. Leaves all ls new.left.items (left.Members (record { from = one.from; owner = owner; number = 0; structure = n }))) lefts_are leave in
      let long : length new.places.items ≡ here + 1 = ap length places ∙ length-append old.places.items (a_place values (given one.from) one.index one.kind ∷ []) in
      let size = object_size all values (given one.from) n here ready.ordered defined in
      let end : (here + 1) + members_size (size_of all) members ≡ here + size_of all n = omega (arith, size) in
      let p = a_place values (given one.from) one.index (type.Structure n) in
      record {
        made =
            ap (λ ps. ps ++ all_left all values new.left.items (length new.places.items)) (places ∙ ap put is)
            ∙ ap (λ m. put (type.Structure n) ++ all_left all values new.left.items m) long
            ∙ ap (λ ps. put (type.Structure n) ++ ps) (leaves.told values (here + 1))
            ∙ ap (λ w. put (type.Structure n) ++ (members_places (places_inside all values) (size_of all) values (given one.from) w 0 (here + 1) members ++ rest ((here + 1) + members_size (size_of all) members))) o_is
            ∙ append_assoc old.places.items (p ∷ []) (inner (given one.from) 0 (here + 1) members ++ rest ((here + 1) + members_size (size_of all) members))
            ∙ ap (λ ps. old.places.items ++ p ∷ (ps ++ rest ((here + 1) + members_size (size_of all) members))) (sym (object_is all values n here (given one.from) ready.ordered defined))
            ∙ ap (λ m. old.places.items ++ p ∷ (places_inside all values n here (given one.from) ++ rest m)) end
            ∙ ap (λ kind. old.places.items ++ goal kind) (sym is);
        more = omega (arith, long);
        kept = ap (take k.count) places ∙ take_front k.count old.places.items (a_place values (given one.from) one.index one.kind ∷ []) ready.earlier;
        left = leaves.left ready.left;
      }

-- the first of some elements, and the others
module _ (k : Known) (old mid : Rows) (same : mid.places.items ≡ old.places.items) (e : Elements) where
  abbrev space : Structures
  space = k.structs.now

  abbrev from_here : ℕ
  from_here = length old.places.items

  abbrev each : Values → ℕ → ℕ → ℕ → List Placed
  each values n i o = elements_places (places_inside space values) (size_of space) values (given e.from) n i o e.kind

  abbrev size : ℕ
  size = kind_size (size_of space) e.kind

  abbrev first : Values → Given → ℕ → List Placed
  first values g o = kind_places (places_inside space values) (size_of space) values g (Some e.index) o e.kind

  abbrev worth : Values
  worth = values_by k old.places.items

  abbrev own : Given
  own = element_of (given e.from) e.index

  abbrev behind_all : ℕ → List Placed
  behind_all o = all_left space worth old.left.items o

  whole : (o n z : ℕ) → 0 < n → (o + z) + (n - 1) * z ≡ o + n * z
  whole o zero z h = absurd (omega (arith, h))
  whole o (suc n) z h = let less : suc n - 1 ≡ n = omega arith in ap (λ m. (o + z) + m * z) less ∙ grind arith

  one_more : (values : Values) (n i o : ℕ) → 0 < n → each values n i o
      ≡ kind_places (places_inside space values) (size_of space) values (element_of (given e.from) i) (Some i) o e.kind ++ each values (n - 1) (i + 1) (o + size)
  one_more values zero i o h = absurd (omega (arith, h))
  one_more values (suc n) i o h =
      let less : n ≡ suc n - 1 = omega arith in
      let next : suc i ≡ i + 1 = omega arith in
      ap (λ m. kind_places (places_inside space values) (size_of space) values (element_of (given e.from) i) (Some i) o e.kind ++ each values m (suc i) (o + size)) less
      ∙ ap (λ j. kind_places (places_inside space values) (size_of space) values (element_of (given e.from) i) (Some i) o e.kind ++ each values (suc n - 1) j (o + size)) next

  -- what is put and what is left then are all of them
  module _ (f : Origin) (some : 0 < e.end - e.index) (f_is : given f ≡ element_of (given e.from) e.index)
      (leaves : Leaves space old.left.items mid.left.items (left.Elements (record { from = e.from; index = e.index + 1; end = e.end; kind = e.kind })))
    where
      abbrev first_one : One
      first_one = record { from = f; index = Some e.index; kind = e.kind }

      element_goal : with_one k mid first_one ≡ with_left k old (left.Elements e)
      element_goal =
          let less : e.end - (e.index + 1) ≡ (e.end - e.index) - 1 = omega arith in
          ap (λ ps. first (values_by k ps) (given f) (length ps) ++ all_left space (values_by k ps) mid.left.items (length ps + size)) same
          ∙ ap (λ g. first worth g from_here ++ all_left space worth mid.left.items (from_here + size)) f_is
          ∙ ap (λ ps. first worth own from_here ++ ps) (leaves.told worth (from_here + size))
          ∙ ap (λ n. first worth own from_here ++ (each worth n (e.index + 1) (from_here + size) ++ behind_all ((from_here + size) + n * size))) less
          ∙ sym (append_assoc (first worth own from_here) (each worth ((e.end - e.index) - 1) (e.index + 1) (from_here + size)) (behind_all ((from_here + size) + ((e.end - e.index) - 1) * size)))
          ∙ ap (λ ps. ps ++ behind_all ((from_here + size) + ((e.end - e.index) - 1) * size)) (sym (one_more worth (e.end - e.index) e.index from_here some))
          ∙ ap (λ m. each worth (e.end - e.index) e.index from_here ++ behind_all m) (whole from_here (e.end - e.index) size some)

      pub element_fits : Fits old (with_left k old (left.Elements e)) → Fits mid (with_one k mid first_one)
      element_fits = fits_behind old mid same (with_one k mid first_one) (with_left k old (left.Elements e)) element_goal

      pub element_put : (new : Rows) → Puts k mid new (with_one k mid first_one) → Puts k old new (with_left k old (left.Elements e))
      element_put new p = puts_behind k old mid new same (with_one k mid first_one) (with_left k old (left.Elements e)) element_goal p

-- the first of some members, and the others
module _ (k : Known) (old mid : Rows) (same : mid.places.items ≡ old.places.items) (m : Members) where
  abbrev room : Structures
  room = k.structs.now

  abbrev at_here : ℕ
  at_here = length old.places.items

  abbrev worths : Values
  worths = values_by k old.places.items

  abbrev all_behind : ℕ → List Placed
  all_behind o = all_left room worths old.left.items o

  abbrev parts : ℕ → List Part
  parts n = drop n (structure_at room m.structure).members

  abbrev inside : ℕ → ℕ → List Part → List Placed
  inside n o ms = members_places (places_inside room worths) (size_of room) worths (given m.from) m.owner n o ms

  abbrev thing_of : Given → Part → List Placed
  thing_of g part = thing_places (places_inside room worths) (size_of room) worths g at_here part.thing

  abbrev of_thing : Part → ℕ
  of_thing part = thing_size (size_of room) part.thing

  module _ (f : Origin) (part : Part) (thing : ThingType) (t_is : thing ≡ part.thing) (at : slice_get (structure_at room m.structure).members m.number ≡ Some part)
      (f_is : given f ≡ member_of (given m.from) m.owner m.number part)
      (leaves : Leaves room old.left.items mid.left.items (left.Members (record { from = m.from; owner = m.owner; number = m.number + 1; structure = m.structure })))
    where
      member_goal : with_thing k mid f thing ≡ with_left k old (left.Members m)
      member_goal =
          let own = member_of (given m.from) m.owner m.number part in
          let next : suc m.number ≡ m.number + 1 = omega arith in
          let whole : (at_here + of_thing part) + members_size (size_of room) (parts (suc m.number)) ≡ at_here + members_size (size_of room) (part ∷ parts (suc m.number)) = omega arith in
          ap (with_thing k mid f) t_is
          ∙ ap (λ ps. thing_places (places_inside room (values_by k ps)) (size_of room) (values_by k ps) (given f) (length ps) part.thing
          ++ all_left room (values_by k ps) mid.left.items (length ps + of_thing part)) same
          ∙ ap (λ g. thing_of g part ++ all_left room worths mid.left.items (at_here + of_thing part)) f_is
          ∙ ap (λ ps. thing_of own part ++ ps) (leaves.told worths (at_here + of_thing part))
          ∙ ap (λ n. thing_of own part ++ (inside n (at_here + of_thing part) (parts n) ++ all_behind ((at_here + of_thing part) + members_size (size_of room) (parts n)))) (sym next)
          ∙ sym (append_assoc (thing_of own part) (inside (suc m.number) (at_here + of_thing part) (parts (suc m.number)))
          (all_behind ((at_here + of_thing part) + members_size (size_of room) (parts (suc m.number)))))
          ∙ ap (λ o. inside m.number at_here (part ∷ parts (suc m.number)) ++ all_behind o) whole
          ∙ ap (λ ms. inside m.number at_here ms ++ all_behind (at_here + members_size (size_of room) ms)) (sym (drop_some (structure_at room m.structure).members m.number part at))

      pub member_fits : Fits old (with_left k old (left.Members m)) → Fits mid (with_thing k mid f thing)
      member_fits = fits_behind old mid same (with_thing k mid f thing) (with_left k old (left.Members m)) member_goal

      pub member_put : (new : Rows) → Puts k mid new (with_thing k mid f thing) → Puts k old new (with_left k old (left.Members m))
      member_put new p = puts_behind k old mid new same (with_thing k mid f thing) (with_left k old (left.Members m)) member_goal p
