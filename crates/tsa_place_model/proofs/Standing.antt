-- Where the members of a struct object and the elements of an array stand.
use Rattle.std.proofs.Common.{◌≡◌, ◌∙◌, ℕ, zero, suc, ◌+◌, ◌*◌, ◌<◌, ◌≤◌, arith, nat_eq, Bool, true, false, if◌then◌else◌, List, [], ◌∷◌}
use Rattle.std.proofs.Common.{◌++◌, length, drop, Option, Some, None, slice_get, refl, sym, ap, subst, append_assoc, eqb-true, eq-eqb}
use Rattle.std.proofs.lemmas.Bool.Decides.{nat_tests}
use Rattle.std.proofs.lemmas.List.{drop_at, drop-drop}
use Rattle.tsa_tree.specs.declared.kind.Kind.{Kind}
use Rattle.tsa_tree.specs.declared.kind.Kind.TheVariants as type
use Rattle.tsa_place_model.specs.Layouts.{Part, Structure, Structures, structure_at, kind_size, thing_size, members_size, size_of, offset}
use Rattle.tsa_place_model.specs.Places.{Placed, Given, Values, Inside, a_place, element_of, member_of, kind_places, elements_places}
use Rattle.tsa_place_model.specs.Places.{pieces, thing_places, members_places, places_inside}
use Rattle.tsa_place_model.specs.Standing.{StandsAt, IsBelow, AllBelow, IsOrdered, MemberStands, ElementStands}
use Rattle.tsa_place_model.proofs.Sizes.{kind_sized, thing_sized, inside_sized}

-- parts side by side
pub left_stands : (all : List Placed) (o : ℕ) (a b : List Placed) → StandsAt all o (a ++ b) → StandsAt all o a
left_stands all o a b h = (b ++ h.0, h.1 ∙ append_assoc a b h.0)

pub right_stands : (all : List Placed) (o n : ℕ) (a b : List Placed) → length a ≡ n → StandsAt all o (a ++ b) → StandsAt all (o + n) b
right_stands all o n a b l h = (h.0, sym (drop-drop n o all) ∙ ap (drop n) (h.1 ∙ append_assoc a b h.0) ∙ drop_at a (b ++ h.0) n l)

module _ (inside : Inside) (size : ℕ → ℕ) (values : Values) (sized : (n o : ℕ) (g : Given) → suc (length (inside n o g)) ≡ size n) (all : List Placed) where
  -- the places of a member that begins at a place
  abbrev member_at : Given → ℕ → ℕ → ℕ → Part → List Placed
  member_at g owner k o m = thing_places inside size values (member_of g owner k m) o m.thing

  -- a member of some members, from the one of number j on
  pub members_stand : (g : Given) (owner o j k : ℕ) (ms : List Part) (m : Part) → slice_get ms k ≡ Some m → StandsAt all o (members_places inside size values g owner j o ms)
      → StandsAt all (o + offset size ms k) (member_at g owner (j + k) (o + offset size ms k) m)
  members_stand g owner o j k [] m e h = cc
  members_stand g owner o j zero (x ∷ ms) m e h =
      let same : x ≡ m = cc in
      let here : o + 0 ≡ o = omega arith in
      let number : j + 0 ≡ j = omega arith in
      subst (λ p. StandsAt all p (member_at g owner (j + 0) p m)) (sym here)
      (subst (λ n. StandsAt all o (member_at g owner n o m)) (sym number)
      (subst (λ y. StandsAt all o (member_at g owner j o y)) same
      (left_stands all o (member_at g owner j o x) (members_places inside size values g owner (suc j) (o + thing_size size x.thing) ms) h)))
  members_stand g owner o j (suc k) (x ∷ ms) m e h =
      let there : (o + thing_size size x.thing) + offset size ms k ≡ o + (thing_size size x.thing + offset size ms k) = omega arith in
      let number : suc j + k ≡ j + suc k = omega arith in
      subst (λ p. StandsAt all p (member_at g owner (j + suc k) p m)) there
      (subst (λ n. StandsAt all ((o + thing_size size x.thing) + offset size ms k) (member_at g owner n ((o + thing_size size x.thing) + offset size ms k) m)) number
      (members_stand g owner (o + thing_size size x.thing) (suc j) k ms m e
      (right_stands all o (thing_size size x.thing) (member_at g owner j o x) (members_places inside size values g owner (suc j) (o + thing_size size x.thing) ms)
      (thing_sized inside size values sized (member_of g owner j x) o x.thing) h)))

  -- an element of some, from the one of index j on
  pub elements_stand : (g : Given) (o j i n : ℕ) (kind : Kind) → i < n → StandsAt all o (elements_places inside size values g n j o kind)
      → StandsAt all (o + i * kind_size size kind) (kind_places inside size values (element_of g (j + i)) (Some (j + i)) (o + i * kind_size size kind) kind)
  elements_stand g o j i zero kind lt h = absurd (omega (arith, lt))
  elements_stand g o j zero (suc n) kind lt h =
      let here : o + 0 * kind_size size kind ≡ o = grind arith in
      let number : j + 0 ≡ j = omega arith in
      subst (λ p. StandsAt all p (kind_places inside size values (element_of g (j + 0)) (Some (j + 0)) p kind)) (sym here)
      (subst (λ k. StandsAt all o (kind_places inside size values (element_of g k) (Some k) o kind)) (sym number)
      (left_stands all o (kind_places inside size values (element_of g j) (Some j) o kind) (elements_places inside size values g n (suc j) (o + kind_size size kind) kind) h))
  elements_stand g o j (suc i) (suc n) kind lt h =
      let there : (o + kind_size size kind) + i * kind_size size kind ≡ o + suc i * kind_size size kind = grind arith in
      let number : suc j + i ≡ j + suc i = omega arith in
      let less : i < n = omega (arith, lt) in
      subst (λ k. StandsAt all (o + suc i * kind_size size kind) (kind_places inside size values (element_of g k) (Some k) (o + suc i * kind_size size kind) kind)) number
      (subst (λ p. StandsAt all p (kind_places inside size values (element_of g (suc j + i)) (Some (suc j + i)) p kind)) there
      (elements_stand g (o + kind_size size kind) (suc j) i n kind less
      (right_stands all o (kind_size size kind) (kind_places inside size values (element_of g j) (Some j) o kind)
      (elements_places inside size values g n (suc j) (o + kind_size size kind) kind) (kind_sized inside size values sized (element_of g j) (Some j) o kind) h)))

not_last : (t n : ℕ) → t < n → nat_eq t n ≡ false
not_last t n h = by (nat_eq t n) refl
  where
    by : (b : Bool) → nat_eq t n ≡ b → b ≡ false
    by true e = let same : t ≡ n = eqb-true t n e in absurd (omega (arith, h, same))
    by false e = refl

pub other_less : (t n : ℕ) → nat_eq t n ≡ false → t < suc n → t < n
other_less t n e h = grind (arith, nat_tests, e, h)

-- places and sizes that are the same for the structs before one
module _ (f g : Inside) (size other : ℕ → ℕ) (values : Values) (n : ℕ) (same : (t o : ℕ) (x : Given) → t < n → f t o x ≡ g t o x)
    (same_size : (t : ℕ) → t < n → size t ≡ other t)
  where
    sizes : (kind : Kind) → IsBelow n kind → kind_size size kind ≡ kind_size other kind
    sizes (type.Structure t) h = same_size t h
    sizes type.Int h = refl
    sizes type.Unsigned h = refl
    sizes type.Void h = refl
    sizes (type.Pointer target to_const) h = refl
    sizes type.Null h = refl
    sizes type.Function h = refl

    kinds : (x : Given) (index : Option ℕ) (o : ℕ) (kind : Kind) → IsBelow n kind → kind_places f size values x index o kind ≡ kind_places g other values x index o kind
    kinds x index o (type.Structure t) h = ap (λ ps. a_place values x index (type.Structure t) ∷ ps) (same t o x h)
    kinds x index o type.Int h = refl
    kinds x index o type.Unsigned h = refl
    kinds x index o type.Void h = refl
    kinds x index o (type.Pointer target to_const) h = refl
    kinds x index o type.Null h = refl
    kinds x index o type.Function h = refl

    elements : (x : Given) (k i o : ℕ) (kind : Kind) → IsBelow n kind → elements_places f size values x k i o kind ≡ elements_places g other values x k i o kind
    elements x zero i o kind h = refl
    elements x (suc k) i o kind h =
        ap (λ ps. ps ++ elements_places f size values x k (suc i) (o + kind_size size kind) kind) (kinds (element_of x i) (Some i) o kind h)
        ∙ ap (λ z. kind_places g other values (element_of x i) (Some i) o kind ++ elements_places f size values x k (suc i) (o + z) kind) (sizes kind h)
        ∙ ap (λ ps. kind_places g other values (element_of x i) (Some i) o kind ++ ps) (elements x k (suc i) (o + kind_size other kind) kind h)

    pub things : (x : Given) (o : ℕ) (kind : Kind) (l : Option ℕ) → IsBelow n kind → pieces f size values x o kind l ≡ pieces g other values x o kind l
    things x o kind None h = kinds x None o kind h
    things x o kind (Some k) h = elements x k 0 o kind h

    pub thing_sizes : (kind : Kind) (l : Option ℕ) (c : Bool) → IsBelow n kind
        → thing_size size (record { kind = kind; length = l; is_const = c }) ≡ thing_size other (record { kind = kind; length = l; is_const = c })
    thing_sizes kind None c h = sizes kind h
    thing_sizes kind (Some k) c h = ap (λ z. k * z) (sizes kind h)

    pub members : (x : Given) (owner k o : ℕ) (ms : List Part) → AllBelow n ms → members_places f size values x owner k o ms ≡ members_places g other values x owner k o ms
    members x owner k o [] h = refl
    members x owner k o (m ∷ ms) h =
        ap (λ ps. ps ++ members_places f size values x owner (suc k) (o + thing_size size m.thing) ms) (things (member_of x owner k m) o m.thing.kind m.thing.length h.0.0)
        ∙ ap (λ z. thing_places g other values (member_of x owner k m) o m.thing ++ members_places f size values x owner (suc k) (o + z) ms)
        (thing_sizes m.thing.kind m.thing.length m.thing.is_const h.0.0)
        ∙ ap (λ ps. thing_places g other values (member_of x owner k m) o m.thing ++ ps) (members x owner (suc k) (o + thing_size other m.thing) ms h.1)

    pub totals : (ms : List Part) → AllBelow n ms → members_size size ms ≡ members_size other ms
    totals [] h = refl
    totals (m ∷ ms) h =
        ap (λ z. z + members_size size ms) (thing_sizes m.thing.kind m.thing.length m.thing.is_const h.0.0) ∙ ap (λ z. thing_size other m.thing + z) (totals ms h.1)

-- an earlier struct is the same where a later one is defined
module _ (s : Structure) (earlier : Structures) (t : ℕ) (less : t < length earlier) where
  pub earlier_structure : structure_at (s ∷ earlier) t ≡ structure_at earlier t
  unfolding structure_at
  earlier_structure = ap (λ b. if b then s else structure_at earlier t) (not_last t (length earlier) less)

  pub earlier_size : size_of (s ∷ earlier) t ≡ size_of earlier t
  unfolding size_of
  earlier_size = ap (λ b. if b then 1 + members_size (size_of earlier) s.members else size_of earlier t) (not_last t (length earlier) less)

  pub earlier_places : (values : Values) (o : ℕ) (g : Given) → places_inside (s ∷ earlier) values t o g ≡ places_inside earlier values t o g
  unfolding places_inside
  earlier_places values o g =
      ap (λ b. if b then members_places (places_inside earlier values) (size_of earlier) values g o 0 (o + 1) s.members else places_inside earlier values t o g)
      (not_last t (length earlier) less)

-- members that are below some structs are below more
pub below_more : (m n : ℕ) (kind : Kind) → m ≤ n → IsBelow m kind → IsBelow n kind
below_more m n (type.Structure t) h x = omega (arith, h, x)
below_more m n type.Int h x = tt
below_more m n type.Unsigned h x = tt
below_more m n type.Void h x = tt
below_more m n (type.Pointer target to_const) h x = tt
below_more m n type.Null h x = tt
below_more m n type.Function h x = tt

all_below_more : (m n : ℕ) (ms : List Part) → m ≤ n → AllBelow m ms → AllBelow n ms
all_below_more m n [] h x = tt
all_below_more m n (p ∷ ps) h x = ((below_more m n p.thing.kind h x.0.0, x.0.1), all_below_more m n ps h x.1)

pub members_below : (all : Structures) (n : ℕ) → IsOrdered all → AllBelow (length all) (structure_at all n).members
unfolding IsOrdered structure_at
members_below [] n h = tt
members_below (s ∷ earlier) n h = by (nat_eq n (length earlier)) (members_below earlier n h.1)
  where
    by : (b : Bool) → AllBelow (length earlier) (structure_at earlier n).members → AllBelow (suc (length earlier)) (if b then s else structure_at earlier n).members
    by true x = all_below_more (length earlier) (suc (length earlier)) s.members (omega arith) h.0
    by false x = all_below_more (length earlier) (suc (length earlier)) (structure_at earlier n).members (omega arith) x

-- the places of a struct object are those of its own members
abbrev Whole : Structures → Values → ℕ → ℕ → Given → Type 0
Whole all values n o g = places_inside all values n o g ≡ members_places (places_inside all values) (size_of all) values g o 0 (o + 1) (structure_at all n).members

whole_last : (s : Structure) (earlier : Structures) (values : Values) (n o : ℕ) (g : Given) → AllBelow (length earlier) s.members → n ≡ length earlier → Whole (s ∷ earlier) values n o g
unfolding places_inside structure_at
whole_last s earlier values n o g below e =
    let last : nat_eq n (length earlier) ≡ true = eq-eqb n (length earlier) e in
    ap (λ b. if b then members_places (places_inside earlier values) (size_of earlier) values g o 0 (o + 1) s.members else places_inside earlier values n o g) last
    ∙ sym (members (places_inside (s ∷ earlier) values) (places_inside earlier values) (size_of (s ∷ earlier)) (size_of earlier) values (length earlier)
    (λ t p x h. earlier_places s earlier t h values p x) (λ t h. earlier_size s earlier t h) g o 0 (o + 1) s.members below)
    ∙ ap (λ b. members_places (places_inside (s ∷ earlier) values) (size_of (s ∷ earlier)) values g o 0 (o + 1) (if b then s else structure_at earlier n).members) (sym last)

whole_earlier : (s : Structure) (earlier : Structures) (values : Values) (n o : ℕ) (g : Given) → IsOrdered earlier → n < length earlier → Whole earlier values n o g
    → Whole (s ∷ earlier) values n o g
whole_earlier s earlier values n o g ordered h e =
    earlier_places s earlier n h values o g ∙ e
    ∙ sym (members (places_inside (s ∷ earlier) values) (places_inside earlier values) (size_of (s ∷ earlier)) (size_of earlier) values (length earlier)
    (λ t p x k. earlier_places s earlier t k values p x) (λ t k. earlier_size s earlier t k) g o 0 (o + 1) (structure_at earlier n).members (members_below earlier n ordered))
    ∙ ap (λ x. members_places (places_inside (s ∷ earlier) values) (size_of (s ∷ earlier)) values g o 0 (o + 1) x.members) (sym (earlier_structure s earlier n h))

pub object_is : (all : Structures) (values : Values) (n o : ℕ) (g : Given) → IsOrdered all → n < length all → Whole all values n o g
unfolding IsOrdered
object_is [] values n o g ordered h = absurd (omega (arith, h))
object_is (s ∷ earlier) values n o g ordered h = by (nat_eq n (length earlier)) refl (λ less. object_is earlier values n o g ordered.1 less)
  where
    by : (b : Bool) → nat_eq n (length earlier) ≡ b → (n < length earlier → Whole earlier values n o g) → Whole (s ∷ earlier) values n o g
    by true e known = whole_last s earlier values n o g ordered.0 (eqb-true n (length earlier) e)
    by false e known = let less : n < length earlier = other_less n (length earlier) e h in whole_earlier s earlier values n o g ordered.1 less (known less)

plain : (n : ℕ) → 0 + n ≡ n
plain n = omega arith

pub member_stands : MemberStands
member_stands structs values all g index o n k m ordered h e stands =
    let inner = places_inside structs values in
    let there = o + 1 + offset (size_of structs) (structure_at structs n).members k in
    let whole : StandsAt all o ((a_place values g index (type.Structure n) ∷ []) ++ members_places inner (size_of structs) values g o 0 (o + 1) (structure_at structs n).members) =
    subst (λ ps. StandsAt all o (a_place values g index (type.Structure n) ∷ ps)) (object_is structs values n o g ordered h) stands in
    subst (λ j. StandsAt all there (thing_places inner (size_of structs) values (member_of g o j m) there m.thing)) (plain k)
    (members_stand inner (size_of structs) values (inside_sized structs values) all g o (o + 1) 0 k (structure_at structs n).members m e
    (right_stands all o 1 (a_place values g index (type.Structure n) ∷ []) (members_places inner (size_of structs) values g o 0 (o + 1) (structure_at structs n).members) refl whole))

pub element_stands : ElementStands
element_stands structs values all g o i n kind less stands =
    let inner = places_inside structs values in
    let there = o + i * kind_size (size_of structs) kind in
    subst (λ j. StandsAt all there (kind_places inner (size_of structs) values (element_of g j) (Some j) there kind)) (plain i)
    (elements_stand inner (size_of structs) values (inside_sized structs values) all g o 0 i n kind less stands)
