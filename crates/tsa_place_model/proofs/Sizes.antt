-- How many places things take, and where the parts of a thing stand among the places of a unit.
use Rattle.std.proofs.Common.{◌≡◌, ◌∙◌, ℕ, zero, suc, ◌+◌, ◌*◌, arith, nat_eq, Bool, true, false, if◌then◌else◌, List, [], ◌∷◌, length}
use Rattle.std.proofs.Common.{Option, Some, None, refl, ap}
use Rattle.std.proofs.lemmas.List.{length-append}
use Rattle.tsa_tree.specs.declared.kind.Kind.{Kind}
use Rattle.tsa_tree.specs.declared.kind.Kind.TheVariants as type
use Rattle.tsa_tree.specs.declared.kind.ThingType.{ThingType}
use Rattle.tsa_place_model.specs.Layouts.{Part, Structure, Structures, kind_size, times, thing_size, members_size, size_of}
use Rattle.tsa_place_model.specs.Places.{Given, Values, Inside, element_of, member_of, kind_places, elements_places, pieces, thing_places}
use Rattle.tsa_place_model.specs.Places.{members_places, places_inside}

-- so many of the same size and one more
more : (n z x y : ℕ) → x ≡ z → y ≡ n * z → x + y ≡ suc n * z
more n z x y h k = ap (λ a. a + y) h ∙ ap (λ a. z + a) k ∙ grind arith

module _ (inside : Inside) (size : ℕ → ℕ) (values : Values) (sized : (n o : ℕ) (g : Given) → suc (length (inside n o g)) ≡ size n) where
  pub kind_sized : (g : Given) (index : Option ℕ) (o : ℕ) (kind : Kind) → length (kind_places inside size values g index o kind) ≡ kind_size size kind
  kind_sized g index o (type.Structure n) = sized n o g
  kind_sized g index o type.Int = refl
  kind_sized g index o type.Unsigned = refl
  kind_sized g index o type.Void = refl
  kind_sized g index o (type.Pointer target to_const) = refl
  kind_sized g index o type.Null = refl
  kind_sized g index o type.Function = refl

  elements_sized : (g : Given) (n i o : ℕ) (kind : Kind) → length (elements_places inside size values g n i o kind) ≡ n * kind_size size kind
  elements_sized g zero i o kind = omega arith
  elements_sized g (suc n) i o kind =
      length-append (kind_places inside size values (element_of g i) (Some i) o kind) (elements_places inside size values g n (suc i) (o + kind_size size kind) kind)
      ∙ more n (kind_size size kind) (length (kind_places inside size values (element_of g i) (Some i) o kind))
      (length (elements_places inside size values g n (suc i) (o + kind_size size kind) kind)) (kind_sized (element_of g i) (Some i) o kind)
      (elements_sized g n (suc i) (o + kind_size size kind) kind)

  pieces_sized : (g : Given) (o : ℕ) (kind : Kind) (l : Option ℕ) → length (pieces inside size values g o kind l) ≡ times l (kind_size size kind)
  pieces_sized g o kind None = kind_sized g None o kind
  pieces_sized g o kind (Some n) = elements_sized g n 0 o kind

  pub thing_sized : (g : Given) (o : ℕ) (t : ThingType) → length (thing_places inside size values g o t) ≡ thing_size size t
  thing_sized g o t = pieces_sized g o t.kind t.length

  pub members_sized : (g : Given) (owner k o : ℕ) (ms : List Part) → length (members_places inside size values g owner k o ms) ≡ members_size size ms
  members_sized g owner k o [] = refl
  members_sized g owner k o (m ∷ ms) =
      length-append (thing_places inside size values (member_of g owner k m) o m.thing) (members_places inside size values g owner (suc k) (o + thing_size size m.thing) ms)
      ∙ ap (λ n. n + length (members_places inside size values g owner (suc k) (o + thing_size size m.thing) ms)) (thing_sized (member_of g owner k m) o m.thing)
      ∙ ap (λ n. thing_size size m.thing + n) (members_sized g owner (suc k) (o + thing_size size m.thing) ms)

one_more : (n : ℕ) → suc n ≡ 1 + n
one_more n = omega arith

-- the members of a struct object take one place less than it
inside_step : (s : Structure) (earlier : Structures) (values : Values) (n o : ℕ) (g : Given) (b : Bool)
    → ((m p : ℕ) (h : Given) → suc (length (places_inside earlier values m p h)) ≡ size_of earlier m)
    → suc (length (if b then members_places (places_inside earlier values) (size_of earlier) values g o 0 (o + 1) s.members else places_inside earlier values n o g))
    ≡ (if b then 1 + members_size (size_of earlier) s.members else size_of earlier n)
inside_step s earlier values n o g true h =
    ap suc (members_sized (places_inside earlier values) (size_of earlier) values h g o 0 (o + 1) s.members) ∙ one_more (members_size (size_of earlier) s.members)
inside_step s earlier values n o g false h = h n o g

pub inside_sized : (all : Structures) (values : Values) (n o : ℕ) (g : Given) → suc (length (places_inside all values n o g)) ≡ size_of all n
unfolding places_inside size_of
inside_sized [] values n o g = refl
inside_sized (s ∷ earlier) values n o g = inside_step s earlier values n o g (nat_eq n (length earlier)) (inside_sized earlier values)
