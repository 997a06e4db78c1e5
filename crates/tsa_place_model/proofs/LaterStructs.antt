-- What is earlier keeps its places and its size where a later struct is defined, and the members of a struct are of earlier ones.
use Rattle.std.proofs.Common.{◌≡◌, ◌∙◌, ℕ, zero, suc, ◌+◌, ◌<◌, arith, nat_eq, Bool, true, false, if◌then◌else◌, List, [], ◌∷◌, length}
use Rattle.std.proofs.Common.{Some, None, slice_get, refl, sym, ap, subst, eqb-true, eq-eqb}
use Rattle.tsa_base.specs.declared.value.Value.TheVariants.{Pointer}
use Rattle.tsa_tree.specs.declared.kind.ThingType.{ThingType}
use Rattle.tsa_place_model.specs.Layouts.{Part, Structure, Structures, structure_at, thing_size, members_size, size_of}
use Rattle.tsa_place_model.specs.Places.{Given, Values, thing_places, places_inside}
use Rattle.tsa_place_model.specs.Standing.{IsBelow, IsWithin, AllBelow, IsOrdered}
use Rattle.tsa_place_model.proofs.Standing.{things, thing_sizes, totals, earlier_structure, earlier_size, earlier_places, members_below}
use Rattle.tsa_place_model.proofs.Standing.{other_less}

no_values : Values
no_values kind init = Pointer None

module _ (s : Structure) (earlier : Structures) where
  pub later_thing : (values : Values) (g : Given) (o : ℕ) (t : ThingType) → IsBelow (length earlier) t.kind
      → thing_places (places_inside (s ∷ earlier) values) (size_of (s ∷ earlier)) values g o t ≡ thing_places (places_inside earlier values) (size_of earlier) values g o t
  later_thing values g o t h =
      things (places_inside (s ∷ earlier) values) (places_inside earlier values) (size_of (s ∷ earlier)) (size_of earlier) values (length earlier)
      (λ n p x k. earlier_places s earlier n k values p x) (λ n k. earlier_size s earlier n k) g o t.kind t.length h

  pub later_size : (t : ThingType) → IsBelow (length earlier) t.kind → thing_size (size_of (s ∷ earlier)) t ≡ thing_size (size_of earlier) t
  later_size t h =
      thing_sizes (places_inside (s ∷ earlier) no_values) (places_inside earlier no_values) (size_of (s ∷ earlier)) (size_of earlier) no_values (length earlier)
      (λ n p x k. earlier_places s earlier n k no_values p x) (λ n k. earlier_size s earlier n k) t.kind t.length t.is_const h

  later_sizes : (ms : List Part) → AllBelow (length earlier) ms → members_size (size_of (s ∷ earlier)) ms ≡ members_size (size_of earlier) ms
  later_sizes ms h =
      totals (places_inside (s ∷ earlier) no_values) (places_inside earlier no_values) (size_of (s ∷ earlier)) (size_of earlier) no_values (length earlier)
      (λ n p x k. earlier_places s earlier n k no_values p x) (λ n k. earlier_size s earlier n k) ms h

  last_size : (n : ℕ) → n ≡ length earlier → AllBelow (length earlier) s.members → size_of (s ∷ earlier) n ≡ 1 + members_size (size_of (s ∷ earlier)) (structure_at (s ∷ earlier) n).members
  unfolding size_of structure_at
  last_size n e below =
      let last : nat_eq n (length earlier) ≡ true = eq-eqb n (length earlier) e in
      ap (λ b. if b then 1 + members_size (size_of earlier) s.members else size_of earlier n) last
      ∙ ap (λ z. 1 + z) (sym (later_sizes s.members below))
      ∙ ap (λ b. 1 + members_size (size_of (s ∷ earlier)) (if b then s else structure_at earlier n).members) (sym last)

  earlier_is : (n : ℕ) → n < length earlier → AllBelow (length earlier) (structure_at earlier n).members
      → size_of earlier n ≡ 1 + members_size (size_of earlier) (structure_at earlier n).members
      → size_of (s ∷ earlier) n ≡ 1 + members_size (size_of (s ∷ earlier)) (structure_at (s ∷ earlier) n).members
  earlier_is n h below is =
      earlier_size s earlier n h ∙ is ∙ ap (λ z. 1 + z) (sym (later_sizes (structure_at earlier n).members below))
      ∙ ap (λ x. 1 + members_size (size_of (s ∷ earlier)) x.members) (sym (earlier_structure s earlier n h))

-- an object takes its own place and those of its members
pub size_is : (all : Structures) (n : ℕ) → IsOrdered all → n < length all → size_of all n ≡ 1 + members_size (size_of all) (structure_at all n).members
unfolding IsOrdered
size_is [] n ordered h = absurd (omega (arith, h))
size_is (s ∷ earlier) n ordered h = by (nat_eq n (length earlier)) refl (λ less. size_is earlier n ordered.1 less)
  where
    by : (b : Bool) → nat_eq n (length earlier) ≡ b → (n < length earlier → size_of earlier n ≡ 1 + members_size (size_of earlier) (structure_at earlier n).members)
        → size_of (s ∷ earlier) n ≡ 1 + members_size (size_of (s ∷ earlier)) (structure_at (s ∷ earlier) n).members
    by true e known = last_size s earlier n (eqb-true n (length earlier) e) ordered.0
    by false e known =
        let less : n < length earlier = other_less n (length earlier) e h in
        earlier_is s earlier n less (members_below earlier n ordered.1) (known less)

-- the members of a struct are of earlier ones
pub own_members_below : (all : Structures) (n : ℕ) → IsOrdered all → n < length all → AllBelow n (structure_at all n).members
unfolding IsOrdered structure_at
own_members_below [] n ordered h = absurd (omega (arith, h))
own_members_below (s ∷ earlier) n ordered h = by (nat_eq n (length earlier)) refl (λ less. own_members_below earlier n ordered.1 less)
  where
    by : (b : Bool) → nat_eq n (length earlier) ≡ b → (n < length earlier → AllBelow n (structure_at earlier n).members)
        → AllBelow n (if b then s else structure_at earlier n).members
    by true e known = subst (λ m. AllBelow m s.members) (sym (eqb-true n (length earlier) e)) ordered.0
    by false e known = known (other_less n (length earlier) e h)

-- a member by its number
pub all_at : (n : ℕ) (ms : List Part) (k : ℕ) (m : Part) → AllBelow n ms → slice_get ms k ≡ Some m → IsWithin n m.thing
all_at n [] k m below e = cc
all_at n (x ∷ ms) zero m below e = let same : x ≡ m = cc in subst (λ y. IsWithin n y.thing) same below.0
all_at n (x ∷ ms) (suc k) m below e = all_at n ms k m below.1 e
