-- What holds of each piece that its initialiser fits holds of all the places of a thing that its initialiser fits.
use Rattle.std.proofs.Common.{◌≡◌, ℕ, zero, suc, ◌+◌, ◌<◌, ◌≤◌, arith, List, [], ◌∷◌, ◌++◌, length, Option, Some, None, slice_get, refl}
use Rattle.std.proofs.Common.{sym, subst}
use Rattle.tsa_tree.specs.declarations.Syntax.{Initialiser}
use Rattle.tsa_tree.specs.declared.kind.Kind.{Kind}
use Rattle.tsa_tree.specs.declared.kind.Kind.TheVariants as type
use Rattle.tsa_tree.specs.declared.kind.ThingType.{ThingType}
use Rattle.tsa_tree.specs.types.Types.{single}
use Rattle.tsa_place_model.specs.declared.place.Placed.{Placed}
use Rattle.tsa_place_model.specs.Layouts.{Part, Structures, kind_size, size_of, thing_size, structure_at}
use Rattle.tsa_place_model.specs.Places.{Given, Values, item_of, a_place, element_of, member_of, kind_places, elements_places, thing_places}
use Rattle.tsa_place_model.specs.Places.{members_places, places_inside}
use Rattle.tsa_place_model.specs.Standing.{IsBelow, IsOrdered}
use Rattle.tsa_place_model.proofs.Standing.{below_more, object_is}
use Rattle.tsa_place_model.proofs.LaterStructs.{own_members_below, all_at}
use Rattle.tsa_core.proofs.TypedTerms.{some_same}

abbrev pub Every : (Placed → Type 0) → List Placed → Type 0
Every G [] = Unit {0}
Every G (p ∷ rest) = G p × Every G rest

pub every_append : (G : Placed → Type 0) (xs ys : List Placed) → Every G xs → Every G ys → Every G (xs ++ ys)
every_append G [] ys h g = g
every_append G (x ∷ xs) ys h g = (h.0, every_append G xs ys h.1 g)

pub every_at : (G : Placed → Type 0) (xs : List Placed) (n : ℕ) (p : Placed) → Every G xs → slice_get xs n ≡ Some p → G p
every_at G [] zero p h e = absurd cc
every_at G [] (suc n) p h e = absurd cc
every_at G (x ∷ xs) zero p h e = subst G (some_same e) h.0
every_at G (x ∷ xs) (suc n) p h e = every_at G xs n p h.1 e

pub every_more : (G H : Placed → Type 0) (xs : List Placed) → ((p : Placed) → G p → H p) → Every G xs → Every H xs
every_more G H [] onto h = tt
every_more G H (x ∷ xs) onto h = (onto x h.0, every_more G H xs onto h.1)

-- what an initialiser that fits a thing does for its parts
pub record Serves (structs : Structures) (values : Values) (G : Placed → Type 0) (Fit : ThingType → Option Initialiser → Type 0) : Type 0 where
  pub piece : (g : Given) (index : Option ℕ) (t : ThingType) → t.length ≡ None → Fit t g.init → G (a_place values g index t.kind)
  pub element : (t : ThingType) (n k : ℕ) (init : Option Initialiser) → t.length ≡ Some n → k < n → Fit t init → Fit (single t.kind t.is_const) (item_of init k)
  pub member : (t : ThingType) (n k : ℕ) (m : Part) (init : Option Initialiser) → t.length ≡ None → t.kind ≡ type.Structure n → slice_get (structure_at structs n).members k ≡ Some m
      → Fit t init → Fit m.thing (item_of init k)

module _ (structs : Structures) (ordered : IsOrdered structs) (values : Values) (G : Placed → Type 0) (Fit : ThingType → Option Initialiser → Type 0) (s : Serves structs values G Fit) where
  abbrev Inside : ℕ → Type 0
  Inside b = (n o : ℕ) (g : Given) (t : ThingType) → n < b → t.kind ≡ type.Structure n → t.length ≡ None → Fit t g.init → Every G (places_inside structs values n o g)

  module _ (b : ℕ) (inner : Inside b) where
    kind_every : (g : Given) (index : Option ℕ) (o : ℕ) (t : ThingType) → IsBelow b t.kind → t.length ≡ None → Fit t g.init
        → Every G (kind_places (places_inside structs values) (size_of structs) values g index o t.kind)
    kind_every g index o t below one fit = by t.kind refl below (s.piece g index t one fit)
      where
        by : (kind : Kind) → t.kind ≡ kind → IsBelow b kind → G (a_place values g index kind) → Every G (kind_places (places_inside structs values) (size_of structs) values g index o kind)
        by (type.Structure n) is below own = (own, inner n o g t below is one fit)
        by type.Int is below own = (own, tt)
        by type.Unsigned is below own = (own, tt)
        by type.Void is below own = (own, tt)
        by (type.Pointer n c) is below own = (own, tt)
        by type.Null is below own = (own, tt)
        by type.Function is below own = (own, tt)

    elements_every : (g : Given) (count i o n : ℕ) (t : ThingType) → IsBelow b t.kind → t.length ≡ Some n → i + count ≤ n → Fit t g.init
        → Every G (elements_places (places_inside structs values) (size_of structs) values g count i o t.kind)
    elements_every g zero i o n t below long less fit = tt
    elements_every g (suc count) i o n t below long less fit =
        every_append G _ _
        (kind_every (element_of g i) (Some i) o (single t.kind t.is_const) below refl (s.element t n i g.init long (omega (arith, less)) fit))
        (elements_every g count (suc i) (o + kind_size (size_of structs) t.kind) n t below long (omega (arith, less)) fit)

    pub thing_every : (g : Given) (o : ℕ) (t : ThingType) → IsBelow b t.kind → Fit t g.init → Every G (thing_places (places_inside structs values) (size_of structs) values g o t)
    thing_every g o t below fit = by t.length refl
      where
        by : (n : Option ℕ) → t.length ≡ n → Every G (thing_places (places_inside structs values) (size_of structs) values g o (record { kind = t.kind; length = n; is_const = t.is_const }))
        by None one = kind_every g None o t below one fit
        by (Some n) long = elements_every g n 0 o n t below long (omega arith) fit

    abbrev FitsFrom : Given → ℕ → List Part → Type 0
    FitsFrom g k ms = (j number : ℕ) (m : Part) → slice_get ms j ≡ Some m → number ≡ k + j → IsBelow b m.thing.kind × Fit m.thing (item_of g.init number)

    members_every : (g : Given) (owner k o : ℕ) (ms : List Part) → FitsFrom g k ms → Every G (members_places (places_inside structs values) (size_of structs) values g owner k o ms)
    members_every g owner k o [] fits = tt
    members_every g owner k o (m ∷ rest) fits =
        let own = fits 0 k m refl (omega arith) in
        every_append G _ _ (thing_every (member_of g owner k m) o m.thing own.0 own.1)
        (members_every g owner (suc k) (o + thing_size (size_of structs) m.thing) rest (λ j number x e f. fits (suc j) number x e (omega (arith, f))))

  inside_every : (b : ℕ) → b ≤ length structs → Inside b
  inside_every zero le n o g t less kind one fit = absurd (omega (arith, less))
  inside_every (suc b) le n o g t less kind one fit =
      let within : n < length structs = omega (arith, less, le) in
      subst (Every G) (sym (object_is structs values n o g ordered within))
      (members_every b (λ k x h u below is alone f. inside_every b (omega (arith, le)) k x h u below is alone f) g o 0 (o + 1) (structure_at structs n).members
      (λ j number m at same.
      let is : j ≡ number = omega (arith, same) in (
        below_more n b m.thing.kind (omega (arith, less)) (all_at n (structure_at structs n).members j m (own_members_below structs n ordered within) at).0,
        s.member t n number m g.init one kind (subst (λ x. slice_get (structure_at structs n).members x ≡ Some m) is at) fit,
      )))

  pub places_every : (g : Given) (o : ℕ) (t : ThingType) → IsBelow (length structs) t.kind → Fit t g.init → Every G (thing_places (places_inside structs values) (size_of structs) values g o t)
  places_every g o t below fit = thing_every (length structs) (λ n x h u less is alone f. inside_every (length structs) (omega arith) n x h u less is alone f) g o t below fit
