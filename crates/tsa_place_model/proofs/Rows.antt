-- Each place of a thing is one of its pieces, or lies in a member of one: what declares it leads to it.
use Rattle.std.proofs.Common.{◌≡◌, ◌∙◌, ℕ, zero, suc, ◌+◌, ◌-◌, ◌*◌, ◌<◌, ◌≤◌, arith, nat_lt, nat_eq, Bool, true, false, List, [], ◌∷◌}
use Rattle.std.proofs.Common.{length, Option, Some, None, slice_get, refl, sym, ap, subst, eqb-true}
use Rattle.std.proofs.lemmas.Bool.Decides.{nat_tests}
use Rattle.tsa_tree.specs.declared.kind.Kind.{Kind}
use Rattle.tsa_tree.specs.declared.kind.Kind.TheVariants as type
use Rattle.tsa_place_model.specs.declared.place.Holder.{Holder}
use Rattle.tsa_place_model.specs.declared.place.Holder.TheVariants.{Member}
use Rattle.tsa_place_model.specs.declared.place.Placed.{Placed}
use Rattle.tsa_place_model.specs.Calls.{Layout, member_place, part_of}
use Rattle.tsa_place_model.specs.Layouts.{Part, structure_at, kind_size, times, thing_size, members_size, size_of, offset}
use Rattle.tsa_place_model.specs.Leading.{first_place, IsInside}
use Rattle.tsa_place_model.specs.Places.{Given, Values, a_place, element_of, member_of, kind_places, pieces, thing_places, places_inside}
use Rattle.tsa_place_model.specs.Standing.{StandsAt, IsBelow, HasSome, IsWithin, IsOrdered}
use Rattle.tsa_place_model.proofs.Asking.{kind_head, is_there, member_some}
use Rattle.tsa_place_model.proofs.LaterStructs.{own_members_below, size_is, all_at}
use Rattle.tsa_place_model.proofs.Standing.{below_more, member_stands, members_below, element_stands}

-- which element of some of a size lies round a place
pub record Element (size count x : ℕ) : Type 0 where
  pub index : ℕ
  pub less : index < count
  pub begins : index * size ≤ x
  pub ends : x < index * size + size

pub find_element : (size count x : ℕ) → x < count * size → Element size count x
find_element size zero x h = absurd (omega (arith, h))
find_element size (suc count) x h = by (nat_lt x size) refl (λ rest. find_element size count (x - size) rest)
  where
    further : Element size count (x - size) → size ≤ x → Element size (suc count) x
    further e past = record {
      index = suc e.index;
      less = let less = e.less in omega (arith, less);
      begins = let begins = e.begins in grind (arith, begins, past);
      ends = let ends = e.ends in grind (arith, ends, past);
    }

    by : (b : Bool) → nat_lt x size ≡ b → (x - size < count * size → Element size count (x - size)) → Element size (suc count) x
    by true e deeper = let less : x < size = grind (arith, nat_tests, e) in record { index = 0; less = omega arith; begins = grind arith; ends = grind (arith, less) }
    by false e deeper =
        let past : size ≤ x = grind (arith, nat_tests, e) in
        let rest : x - size < count * size = grind (arith, h, past) in
        further (deeper rest) past

-- which member lies round a place
pub record Found (size : ℕ → ℕ) (ms : List Part) (x : ℕ) : Type 0 where
  pub number : ℕ
  pub part : Part
  pub is : slice_get ms number ≡ Some part
  pub begins : offset size ms number ≤ x
  pub ends : x < offset size ms number + thing_size size part.thing

pub find_member : (size : ℕ → ℕ) (ms : List Part) (x : ℕ) → x < members_size size ms → Found size ms x
find_member size [] x h = absurd (omega (arith, h))
find_member size (m ∷ ms) x h = by (nat_lt x (thing_size size m.thing)) refl (λ rest. find_member size ms (x - thing_size size m.thing) rest)
  where
    first : x < thing_size size m.thing → Found size (m ∷ ms) x
    first less = record { number = 0; part = m; is = refl; begins = omega arith; ends = omega (arith, less) }

    further : Found size ms (x - thing_size size m.thing) → thing_size size m.thing ≤ x → Found size (m ∷ ms) x
    further f past = record {
      number = suc f.number;
      part = f.part;
      is = f.is;
      begins = let begins = f.begins in omega (arith, begins, past);
      ends = let ends = f.ends in omega (arith, ends, past);
    }

    by : (b : Bool) → nat_lt x (thing_size size m.thing) ≡ b → (x - thing_size size m.thing < members_size size ms → Found size ms (x - thing_size size m.thing)) → Found size (m ∷ ms) x
    by true e deeper = first (grind (arith, nat_tests, e))
    by false e deeper =
        let past : thing_size size m.thing ≤ x = grind (arith, nat_tests, e) in
        let rest : x - thing_size size m.thing < members_size size ms = omega (arith, h, past) in
        further (deeper rest) past

module _ (l : Layout) where
  -- what a global or a member declares, with where it begins and what stands there
  pub record Thing (holder : Holder) (first : ℕ) : Type 0 where
    pub part : Part
    pub declared : part_of l holder ≡ Some part
    pub begins : first_place l holder ≡ Some first
    pub within : IsWithin (length l.structs) part.thing
    pub values : Values
    pub given : Given
    pub holder_is : given.holder ≡ holder
    pub stands : StandsAt l.places first (thing_places (places_inside l.structs values) (size_of l.structs) values given first part.thing)
    pub inside : IsInside holder first

  -- the place of a piece of a thing
  abbrev pub PieceAt : Option ℕ → ℕ → ℕ → Option ℕ → ℕ → Type 0
  PieceAt None size first None place = place ≡ first
  PieceAt (Some n) size first (Some i) place = (i < n) × (place ≡ first + i * size)
  PieceAt _ size first _ place = ⊥

  -- a struct object or a cell with what it has from where it lies
  pub record Object (place : ℕ) (holder : Holder) (index : Option ℕ) (kind : Kind) : Type 0 where
    pub values : Values
    pub given : Given
    pub holder_is : given.holder ≡ holder
    pub stands : StandsAt l.places place (kind_places (places_inside l.structs values) (size_of l.structs) values given index place kind)

  -- what stands at a place, as a piece of a thing
  pub record Row (place : ℕ) : Type 0 where
    pub holder : Holder
    pub first : ℕ
    pub index : Option ℕ
    pub thing : Thing holder first
    pub piece : PieceAt thing.part.thing.length (kind_size (size_of l.structs) thing.part.thing.kind) first index place
    pub object : Object place holder index thing.part.thing.kind

  -- the place of an object
  pub object_place : (place : ℕ) (holder : Holder) (index : Option ℕ) (kind : Kind) (o : Object place holder index kind)
      → slice_get l.places place ≡ Some (a_place o.values o.given index kind)
  object_place place holder index kind o = kind_head (places_inside l.structs o.values) (size_of l.structs) o.values l.places o.given index place kind o.stands

  -- what stands at a thing's beginning
  pub object_alone : (holder : Holder) (first : ℕ) (t : Thing holder first) → t.part.thing.length ≡ None → Object first holder None t.part.thing.kind
  object_alone holder first t long = record {
    values = t.values;
    given = t.given;
    holder_is = t.holder_is;
    stands = subst (λ n. StandsAt l.places first (pieces (places_inside l.structs t.values) (size_of l.structs) t.values t.given first t.part.thing.kind n)) long t.stands;
  }

  -- .. and at each of its elements
  pub object_element : (holder : Holder) (first n i : ℕ) (t : Thing holder first) → t.part.thing.length ≡ Some n → i < n
      → Object (first + i * kind_size (size_of l.structs) t.part.thing.kind) holder (Some i) t.part.thing.kind
  object_element holder first n i t long less = record {
    values = t.values;
    given = element_of t.given i;
    holder_is = t.holder_is;
    stands = element_stands l.structs t.values l.places t.given first i n t.part.thing.kind less
        (subst (λ m. StandsAt l.places first (pieces (places_inside l.structs t.values) (size_of l.structs) t.values t.given first t.part.thing.kind m)) long t.stands);
  }

  -- some place stands where a thing begins
  pub thing_head : (values : Values) (g : Given) (o : ℕ) (kind : Kind) (n : Option ℕ) → HasSome n
      → StandsAt l.places o (pieces (places_inside l.structs values) (size_of l.structs) values g o kind n) → (p : Placed) × (slice_get l.places o ≡ Some p)
  thing_head values g o kind None some h =
      (a_place values g None kind, kind_head (places_inside l.structs values) (size_of l.structs) values l.places g None o kind h)
  thing_head values g o kind (Some n) some h =
      let here : o + 0 * kind_size (size_of l.structs) kind ≡ o = grind arith in (
        a_place values (element_of g 0) (Some 0) kind,
        subst (λ x. slice_get l.places x ≡ Some (a_place values (element_of g 0) (Some 0) kind)) here
            (kind_head (places_inside l.structs values) (size_of l.structs) values l.places (element_of g 0) (Some 0) (o + 0 * kind_size (size_of l.structs) kind) kind
            (element_stands l.structs values l.places g o 0 n kind some h)),
      )

  module _ (ordered : IsOrdered l.structs) where
    -- a member of an object is a thing of its own
    module _ (owner : ℕ) (holder : Holder) (index : Option ℕ) (s : ℕ) (object : Object owner holder index (type.Structure s)) (below : s < length l.structs) (k : ℕ) (m : Part)
        (is : slice_get (structure_at l.structs s).members k ≡ Some m)
      where
        abbrev pub start : ℕ
        start = owner + 1 + offset (size_of l.structs) (structure_at l.structs s).members k

        at_owner : slice_get l.places owner ≡ Some (a_place object.values object.given index (type.Structure s))
        at_owner = object_place owner holder index (type.Structure s) object

        abbrev MemberAt : Type 0
        MemberAt = StandsAt l.places start (thing_places (places_inside l.structs object.values) (size_of l.structs) object.values (member_of object.given owner k m) start m.thing)

        member_at : MemberAt
        member_at = member_stands l.structs object.values l.places object.given index owner s k m ordered below is object.stands

        pub member_within : IsWithin (length l.structs) m.thing
        member_within = all_at (length l.structs) (structure_at l.structs s).members k m (members_below l.structs s ordered) is

        member_head : (p : Placed) × (slice_get l.places start ≡ Some p)
        member_head = thing_head object.values (member_of object.given owner k m) start m.thing.kind m.thing.length member_within.1 member_at

        pub member_begins : member_place l owner k ≡ Some start
        member_begins = member_some l owner k (a_place object.values object.given index (type.Structure s)) m at_owner is ∙ is_there l start member_head.0 member_head.1

        pub member_thing : Thing (Member owner k) start
        member_thing = record {
          part = m;
          declared = rw at_owner is;
          begins = member_begins;
          within = member_within;
          values = object.values;
          given = member_of object.given owner k m;
          holder_is = refl;
          stands = member_at;
          inside = omega arith;
        }

    abbrev pub Deeper : ℕ → Type 0
    Deeper b = (holder : Holder) (first : ℕ) (t : Thing holder first) (place : ℕ) → IsBelow b t.part.thing.kind → first ≤ place
        → place < first + thing_size (size_of l.structs) t.part.thing → Row place

    -- a place behind an object lies in a member of it
    object_rows : (s : ℕ) → Deeper s → (owner : ℕ) (holder : Holder) (index : Option ℕ) (object : Object owner holder index (type.Structure s)) → s < length l.structs
        → (place : ℕ) → owner < place → place < owner + size_of l.structs s → Row place
    unfolding member_thing
    object_rows s deeper owner holder index object below place past early =
        let size = size_is l.structs s ordered below in
        let rest : place - (owner + 1) < members_size (size_of l.structs) (structure_at l.structs s).members = omega (arith, past, early, size) in
        from (find_member (size_of l.structs) (structure_at l.structs s).members (place - (owner + 1)) rest)
      where
        from : Found (size_of l.structs) (structure_at l.structs s).members (place - (owner + 1)) → Row place
        from f =
            let begins = f.begins in
            let ends = f.ends in
            deeper (Member owner f.number) (owner + 1 + offset (size_of l.structs) (structure_at l.structs s).members f.number)
            (member_thing owner holder index s object below f.number f.part f.is) place
            (all_at s (structure_at l.structs s).members f.number f.part (own_members_below l.structs s ordered below) f.is).0
            (omega (arith, begins, past)) (omega (arith, ends, past))

    module _ (b : ℕ) (deeper : (s : ℕ) → s < b → Deeper s) (holder : Holder) (first : ℕ) (index : Option ℕ) (t : Thing holder first) (o : ℕ)
        (piece : PieceAt t.part.thing.length (kind_size (size_of l.structs) t.part.thing.kind) first index o) (object : Object o holder index t.part.thing.kind)
        (below : IsBelow b t.part.thing.kind) (place : ℕ) (from : o ≤ place)
      where
        itself : place ≡ o → Row place
        itself e = subst Row (sym e) (record { holder = holder; first = first; index = index; thing = t; piece = piece; object = object })

        by_kind : (kind : Kind) → t.part.thing.kind ≡ kind → IsBelow b kind → IsBelow (length l.structs) kind → place < o + kind_size (size_of l.structs) kind → nat_eq place o ≡ false → Row place
        by_kind (type.Structure s) e less within early other =
            object_rows s (deeper s less) o holder index (subst (Object o holder index) e object) within place (grind (arith, nat_tests, other, from)) early
        by_kind type.Int e less within early other = absurd (grind (arith, nat_tests, other, from, early))
        by_kind type.Unsigned e less within early other = absurd (grind (arith, nat_tests, other, from, early))
        by_kind type.Void e less within early other = absurd (grind (arith, nat_tests, other, from, early))
        by_kind (type.Pointer target to_const) e less within early other = absurd (grind (arith, nat_tests, other, from, early))
        by_kind type.Null e less within early other = absurd (grind (arith, nat_tests, other, from, early))
        by_kind type.Function e less within early other = absurd (grind (arith, nat_tests, other, from, early))

        -- a place of a piece is the piece's own, or lies in a member
        kind_rows : place < o + kind_size (size_of l.structs) t.part.thing.kind → Row place
        kind_rows early = by (nat_eq place o) refl
          where
            by : (c : Bool) → nat_eq place o ≡ c → Row place
            by true e = itself (eqb-true place o e)
            by false e = by_kind t.part.thing.kind refl below t.within.0 early e

    -- a place of a thing lies in a piece of it
    rows_by : (b : ℕ) → ((s : ℕ) → s < b → Deeper s) → Deeper b
    rows_by b deeper holder first t place below from early = by_length t.part.thing.length refl
      where
        piece_of : (n : ℕ) → t.part.thing.length ≡ Some n → Element (kind_size (size_of l.structs) t.part.thing.kind) n (place - first) → Row place
        piece_of n long e =
            let begins = e.begins in
            let ends = e.ends in
            kind_rows b deeper holder first (Some e.index) t (first + e.index * kind_size (size_of l.structs) t.part.thing.kind)
            (subst (λ m. PieceAt m (kind_size (size_of l.structs) t.part.thing.kind) first (Some e.index) (first + e.index * kind_size (size_of l.structs) t.part.thing.kind)) (sym long) (e.less, refl))
            (object_element holder first n e.index t long e.less) below place (grind (arith, begins, from)) (grind (arith, ends, from))

        by_length : (n : Option ℕ) → t.part.thing.length ≡ n → Row place
        by_length None long =
            let whole : thing_size (size_of l.structs) t.part.thing ≡ kind_size (size_of l.structs) t.part.thing.kind = ap (λ n. times n (kind_size (size_of l.structs) t.part.thing.kind)) long in
            kind_rows b deeper holder first None t first
            (subst (λ m. PieceAt m (kind_size (size_of l.structs) t.part.thing.kind) first None first) (sym long) refl)
            (object_alone holder first t long) below place from (omega (arith, early, whole))
        by_length (Some n) long =
            let whole : thing_size (size_of l.structs) t.part.thing ≡ n * kind_size (size_of l.structs) t.part.thing.kind = ap (λ m. times m (kind_size (size_of l.structs) t.part.thing.kind)) long in
            let less : place - first < n * kind_size (size_of l.structs) t.part.thing.kind = omega (arith, early, whole, from) in
            piece_of n long (find_element (kind_size (size_of l.structs) t.part.thing.kind) n (place - first) less)

    -- each place of a thing has what declares it
    pub thing_rows : (b : ℕ) → Deeper b
    thing_rows zero = rows_by zero (λ s h. absurd (omega (arith, h)))
    thing_rows (suc b) =
        rows_by (suc b) (λ s h holder first t place below from early. thing_rows b holder first t place (below_more s b t.part.thing.kind (omega (arith, h)) below) from early)
