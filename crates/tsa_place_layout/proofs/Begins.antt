-- Where members begin, and structs by their numbers.
use Rattle.std.proofs.Common.{◌≡◌, ◌∙◌, ℕ, zero, suc, ◌+◌, ◌<◌, ◌≤◌, arith, nat_eq, Bool, true, false, if◌then◌else◌, List, [], ◌∷◌, ◌++◌}
use Rattle.std.proofs.Common.{drop, length, Option, Some, None, option_map, slice_get, refl, sym, ap}
use Rattle.std.proofs.lemmas.Bool.{eqb-true, eq-eqb}
use Rattle.std.proofs.lemmas.List.{append-nil, append_assoc}
use Rattle.tsa_tree.specs.declared.kind.Kind.{Kind}
use Rattle.tsa_tree.specs.declared.kind.Kind.TheVariants as type
use Rattle.tsa_place_model.specs.Layouts.{Part, Structure, Structures, structure_at, no_members, kind_size, times, thing_size, members_size}
use Rattle.tsa_place_model.specs.Layouts.{size_of, offset, capped}
use Rattle.tsa_place_model.specs.Standing.{IsBelow, AllBelow}
use Rattle.tsa_place_layout.specs.Tables.{shown, latest, begins_from, IsKept}
use Rattle.tsa_place_layout.specs.declared.structures.Defined.{Defined}
use Rattle.tsa_place_model.proofs.Standing.{earlier_structure, earlier_size}

module _ (size : ℕ → ℕ) where
  -- what stands before a member, and from it on, is all
  pub split : (ms : List Part) (i : ℕ) → offset size ms i + members_size size (drop i ms) ≡ members_size size ms
  split [] zero = refl
  split [] (suc i) = refl
  split (m ∷ ms) zero = nothing_before (members_size size (m ∷ ms))
    where
      nothing_before : (n : ℕ) → 0 + n ≡ n
      nothing_before n = omega arith
  split (m ∷ ms) (suc i) = let e = split ms i in omega (arith, e)

  -- the next one begins behind it
  offset_next : (ms : List Part) (i : ℕ) (m : Part) → drop i ms ≡ m ∷ drop (suc i) ms → offset size ms (suc i) ≡ offset size ms i + thing_size size m.thing
  offset_next [] zero m e = cc
  offset_next [] (suc i) m e = cc
  offset_next (x ∷ ms) zero m e = let same : x ≡ m = cc in let here : offset size ms 0 ≡ 0 = first ms in ap (λ y. thing_size size y.thing + offset size ms 0) same ∙ omega (arith, here)
    where
      first : (ms : List Part) → offset size ms 0 ≡ 0
      first [] = refl
      first (y ∷ ys) = refl
  offset_next (x ∷ ms) (suc i) m e = let h = offset_next ms i m e in omega (arith, h)

  -- by its number
  pub begin_at : (ms : List Part) (at k : ℕ) → slice_get (begins_from size at ms) k ≡ option_map (λ part. capped (at + offset size ms k)) (slice_get ms k)
  begin_at [] at zero = refl
  begin_at [] at (suc k) = refl
  begin_at (m ∷ ms) at zero = let e : at ≡ at + 0 = omega arith in ap (λ n. Some (capped n)) e
  begin_at (m ∷ ms) at (suc k) =
      let e : (at + thing_size size m.thing) + offset size ms k ≡ at + (thing_size size m.thing + offset size ms k) = omega arith in
      begin_at ms (at + thing_size size m.thing) k ∙ ap (λ n. option_map (λ part. capped n) (slice_get ms k)) e

  module _ (ms : List Part) (i end : ℕ) (is : end ≡ capped (offset size ms i)) where
    -- none is left
    pub end_is : drop i ms ≡ [] → end ≡ capped (members_size size ms)
    end_is e =
        let whole = split ms i in
        let none : offset size ms i ≡ members_size size ms = plain (offset size ms i) ∙ ap (λ l. offset size ms i + members_size size l) (sym e) ∙ whole in
        is ∙ ap capped none
      where
        plain : (n : ℕ) → n ≡ n + 0
        plain n = omega arith

    -- the next one
    module _ (m : Part) (at_i : drop i ms ≡ m ∷ drop (suc i) ms) where
      plus : suc i ≡ i + 1
      plus = omega arith

      pub end_next : (piece next : ℕ) → piece ≡ capped (thing_size size m.thing) → next ≡ capped (end + piece) → next ≡ capped (offset size ms (i + 1))
      end_next piece next p n =
          let more = offset_next ms i m at_i in
          let sum : next ≡ capped (offset size ms (suc i)) = omega (arith, is, p, n, more) in
          sum ∙ ap (λ j. capped (offset size ms j)) plus

      pub places_next : (places longer goal : List ℕ) → longer ≡ places ++ end ∷ [] → places ++ begins_from size (offset size ms i) (drop i ms) ≡ goal
          → longer ++ begins_from size (offset size ms (i + 1)) (drop (i + 1) ms) ≡ goal
      places_next places longer goal e h =
          let rest = begins_from size (offset size ms (suc i)) (drop (suc i) ms) in
          ap (λ l. l ++ begins_from size (offset size ms (i + 1)) (drop (i + 1) ms)) e
          ∙ ap (λ j. (places ++ end ∷ []) ++ begins_from size (offset size ms j) (drop j ms)) (sym plus)
          ∙ append_assoc places (end ∷ []) rest
          ∙ ap (λ x. places ++ x ∷ rest) is
          ∙ ap (λ n. places ++ capped (offset size ms i) ∷ begins_from size n (drop (suc i) ms)) (offset_next ms i m at_i)
          ∙ ap (λ l. places ++ begins_from size (offset size ms i) l) (sym at_i)
          ∙ h

  -- none of them
  pub places_first : (ms : List Part) (places : List ℕ) → places ≡ []
      → (0 ≡ capped (offset size ms 0)) × (places ++ begins_from size (offset size ms 0) ms ≡ begins_from size 0 ms)
  places_first ms places e =
      let here = nothing_before ms in
      (ap capped (sym here), ap (λ l. l ++ begins_from size (offset size ms 0) ms) e ∙ ap (λ n. begins_from size n ms) here)
    where
      nothing_before : (ms : List Part) → offset size ms 0 ≡ 0
      nothing_before [] = refl
      nothing_before (m ∷ ms) = refl

  -- all of them
  pub places_end : (ms : List Part) (i : ℕ) (places goal : List ℕ) → drop i ms ≡ [] → places ++ begins_from size (offset size ms i) (drop i ms) ≡ goal → places ≡ goal
  places_end ms i places goal e h = sym (append-nil places) ∙ ap (λ l. places ++ begins_from size (offset size ms i) l) (sym e) ∙ h

-- members begin where they did, once another struct is defined
module _ (s : Structure) (earlier : Structures) where
  kind_later : (kind : Kind) → IsBelow (length earlier) kind → kind_size (size_of (s ∷ earlier)) kind ≡ kind_size (size_of earlier) kind
  kind_later (type.Structure t) h = earlier_size s earlier t h
  kind_later type.Int h = refl
  kind_later type.Unsigned h = refl
  kind_later type.Void h = refl
  kind_later (type.Pointer target to_const) h = refl
  kind_later type.Null h = refl
  kind_later type.Function h = refl

  thing_later : (m : Part) → IsBelow (length earlier) m.thing.kind → thing_size (size_of (s ∷ earlier)) m.thing ≡ thing_size (size_of earlier) m.thing
  thing_later m h = ap (times m.thing.length) (kind_later m.thing.kind h)

  pub begins_later : (ms : List Part) (at : ℕ) → AllBelow (length earlier) ms → begins_from (size_of (s ∷ earlier)) at ms ≡ begins_from (size_of earlier) at ms
  begins_later [] at h = refl
  begins_later (m ∷ ms) at h =
      ap (λ n. capped at ∷ begins_from (size_of (s ∷ earlier)) (at + n) ms) (thing_later m h.0.0)
      ∙ ap (λ l. capped at ∷ l) (begins_later ms (at + thing_size (size_of earlier) m.thing) h.1)

-- a struct of earlier ones is the same where later ones are defined
same_behind : (list : List Defined) (earlier : Structures) (n : ℕ) → n < length earlier → structure_at (latest list earlier) n ≡ structure_at earlier n
same_behind [] earlier n h = refl
same_behind (d ∷ list) earlier n h =
    let more : n < length (shown d ∷ earlier) = omega (arith, h) in
    same_behind list (shown d ∷ earlier) n more ∙ earlier_structure (shown d) earlier n h

last_structure : (s : Structure) (earlier : Structures) → structure_at (s ∷ earlier) (length earlier) ≡ s
unfolding structure_at
last_structure s earlier = ap (λ b. if b then s else structure_at earlier (length earlier)) (eq-eqb (length earlier) (length earlier) refl)

kept_behind : (list : List Defined) (earlier : Structures) (k : ℕ) (d : Defined) → slice_get list k ≡ Some d → structure_at (latest list earlier) (k + length earlier) ≡ shown d
kept_behind [] earlier zero d h = cc
kept_behind [] earlier (suc k) d h = cc
kept_behind (x ∷ list) earlier zero d h =
    let same : x ≡ d = cc in
    let less : length earlier < length (shown x ∷ earlier) = omega arith in
    let here : 0 + length earlier ≡ length earlier = omega arith in
    ap (structure_at (latest list (shown x ∷ earlier))) here
    ∙ same_behind list (shown x ∷ earlier) (length earlier) less ∙ last_structure (shown x) earlier ∙ ap shown same
kept_behind (x ∷ list) earlier (suc k) d h =
    let there : suc k + length earlier ≡ k + length (shown x ∷ earlier) = omega arith in
    ap (structure_at (latest list (shown x ∷ earlier))) there ∙ kept_behind list (shown x ∷ earlier) k d h

-- a struct that is kept ..
pub kept_at : (list : List Defined) (n : ℕ) (d : Defined) → slice_get list n ≡ Some d → structure_at (latest list []) n ≡ shown d
kept_at list n d h = let e : n ≡ n + 0 = omega arith in ap (structure_at (latest list [])) e ∙ kept_behind list [] n d h

-- .. and one that isn't
past_step : (b : Bool) (x y : Structure) → b ≡ false → y ≡ no_members → (if b then x else y) ≡ no_members
past_step true x y h e = cc
past_step false x y h e = e

pub other : (n m : ℕ) → m < n → nat_eq n m ≡ false
other n m h = by (nat_eq n m) refl
  where
    by : (b : Bool) → nat_eq n m ≡ b → b ≡ false
    by true e = let same : n ≡ m = eqb-true n m e in absurd (omega (arith, h, same))
    by false e = refl

pub none_at : (all : Structures) (n : ℕ) → length all ≤ n → structure_at all n ≡ no_members
unfolding structure_at
none_at [] n h = refl
none_at (s ∷ earlier) n h =
    let less : length earlier < n = omega (arith, h) in
    let within : length earlier ≤ n = omega (arith, h) in
    past_step (nat_eq n (length earlier)) s (structure_at earlier n) (other n (length earlier) less) (none_at earlier n within)

-- as many in either order
pub as_many : (list : List Defined) (earlier : Structures) → length (latest list earlier) ≡ length list + length earlier
as_many [] earlier = omega arith
as_many (d ∷ rest) earlier = let e = as_many rest (shown d ∷ earlier) in omega (arith, e)

-- where there are no members, none has a number
pub none_there : (structs : Structures) (n k : ℕ) → structure_at structs n ≡ no_members → slice_get (structure_at structs n).members k ≡ None
none_there structs n k h = ap (λ s. slice_get s.members k) h ∙ nothing k
  where
    nothing : (k : ℕ) → ◌≡◌ {A = Option Part} (slice_get [] k) None
    nothing zero = refl
    nothing (suc k) = refl

pub members_of_none : (structs : Structures) (n k : ℕ) → structure_at structs n ≡ no_members × size_of structs n ≡ 1 → None ≡ slice_get (structure_at structs n).members k
members_of_none structs n k h = sym (none_there structs n k h.0)

pub begins_of_none : (structs : Structures) (n k : ℕ) → structure_at structs n ≡ no_members × size_of structs n ≡ 1
    → None ≡ option_map (λ part. capped (offset (size_of structs) (structure_at structs n).members k)) (slice_get (structure_at structs n).members k)
begins_of_none structs n k h = ap (option_map (λ part. capped (offset (size_of structs) (structure_at structs n).members k))) (sym (none_there structs n k h.0))

pub member_kept : (structs : Structures) (n k : ℕ) (d : Defined) → IsKept structs n d → slice_get d.members.items k ≡ slice_get (structure_at structs n).members k
member_kept structs n k d h = ap (λ s. slice_get s.members k) (sym h.shows)

pub begin_kept : (structs : Structures) (n k : ℕ) (d : Defined) → IsKept structs n d
    → slice_get d.begins.items k ≡ option_map (λ part. capped (offset (size_of structs) (structure_at structs n).members k)) (slice_get (structure_at structs n).members k)
begin_kept structs n k d h =
    ap (λ l. slice_get l k) h.begins ∙ begin_at (size_of structs) d.members.items 0 k
    ∙ ap (λ m. option_map (λ part. capped m) (slice_get d.members.items k)) (plain (offset (size_of structs) d.members.items k))
    ∙ ap (λ s. option_map (λ part. capped (offset (size_of structs) s.members k)) (slice_get s.members k)) (sym h.shows)
  where
    plain : (n : ℕ) → 0 + n ≡ n
    plain n = omega arith

pub ruleset members = (members_of_none, begins_of_none, member_kept, begin_kept)
