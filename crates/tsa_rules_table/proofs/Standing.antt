-- Where paths stand among others.
use Rattle.std.proofs.Common.{◌≡◌, ◌∙◌, ℕ, zero, suc, ◌+◌, ◌<◌, ◌≤◌, min, arith, nat_lt, Bool, true, false, not, ◌||◌, if◌then◌else◌, List}
use Rattle.std.proofs.Common.{[], ◌∷◌, length, take, Some, slice_get, refl, sym, ap}
use Rattle.std.proofs.lemmas.Bool.Decides.{nat_tests}
use Rattle.std.proofs.lemmas.List.{length-take}
use Rattle.tsa_place_model.specs.Ways.{Way}
use Rattle.tsa_path.specs.PathTables.{is_known, number_of}
use Rattle.tsa_path.specs.Sameness.{same_way}
use Rattle.tsa_path.proofs.PathsApart.{way_equal, way_itself}
use Rattle.tsa_rules_table.specs.Numbers.{below_count, known_number}

-- the number of a path among the first of some
number_in_front : (k : ℕ) (paths : List Way) (w : Way) → number_of (take k paths) w ≡ min k (number_of paths w)
number_in_front zero paths w = omega arith
number_in_front (suc k) [] w = omega arith
number_in_front (suc k) (v ∷ paths) w = by (same_way w v) (number_in_front k paths w)
  where
    by : (b : Bool) → number_of (take k paths) w ≡ min k (number_of paths w)
        → (if not b then 1 + number_of (take k paths) w else 0) ≡ min (suc k) (if not b then 1 + number_of paths w else 0)
    by true e = omega arith
    by false e = omega arith

below_least : (n k : ℕ) → below_count n k ≡ below_count (min k n) k
below_least n k = by (nat_lt n k) refl
  where
    by : (b : Bool) → nat_lt n k ≡ b → below_count n k ≡ below_count (min k n) k
    by true e = let m : min k n ≡ n = grind (arith, nat_tests) in ap (λ x. below_count x k) (sym m)
    by false e = let t : nat_lt (min k n) k ≡ false = grind (arith, nat_tests) in rw (e, t) refl

pub known_in_front : (k : ℕ) (paths : List Way) (w : Way) → k ≤ length paths → below_count (number_of paths w) k ≡ known_number (take k paths) w
known_in_front k paths w within =
    let front : length (take k paths) ≡ k = omega (arith, length-take k paths) in
    below_least (number_of paths w) k ∙ (λ i. below_count (sym (number_in_front k paths w) i) (sym front i))

-- one that isn't known would stand behind all others
pub unknown_behind : (paths : List Way) (w : Way) → is_known paths w ≡ false → number_of paths w ≡ length paths
unknown_behind [] w e = refl
unknown_behind (v ∷ paths) w e = by (same_way w v) (unknown_behind paths w) e
  where
    by : (b : Bool) → (is_known paths w ≡ false → number_of paths w ≡ length paths) → (b || is_known paths w) ≡ false
        → (if not b then 1 + number_of paths w else 0) ≡ length (v ∷ paths)
    by true go e = cc
    by false go e = let n = go e in omega arith

-- a path that stands somewhere has a number
pub stands_below : (paths : List Way) (w : Way) (n : ℕ) → slice_get paths n ≡ Some w → number_of paths w < length paths
stands_below [] w n there = cc
stands_below (v ∷ paths) w zero there =
    let same : same_way w v ≡ true = let e : v ≡ w = cc in ap (same_way w) e ∙ way_itself w in
    rw same (omega arith)
stands_below (v ∷ paths) w (suc n) there = by (same_way w v) (stands_below paths w n there)
  where
    by : (b : Bool) → number_of paths w < length paths → (if not b then 1 + number_of paths w else 0) < length (v ∷ paths)
    by true below = omega arith
    by false below = omega arith

-- and a path with a number stands there
pub below_stands : (paths : List Way) (w : Way) → number_of paths w < length paths → slice_get paths (number_of paths w) ≡ Some w
below_stands [] w below = absurd (omega arith)
below_stands (v ∷ paths) w below = by (same_way w v) refl below (below_stands paths w)
  where
    after : (n : ℕ) → slice_get paths n ≡ Some w → slice_get (v ∷ paths) (1 + n) ≡ Some w
    after n there = let one : 1 + n ≡ suc n = omega arith in ap (slice_get (v ∷ paths)) one ∙ there

    by : (b : Bool) → same_way w v ≡ b → (if not b then 1 + number_of paths w else 0) < length (v ∷ paths) → (number_of paths w < length paths → slice_get paths (number_of paths w) ≡ Some w)
        → slice_get (v ∷ paths) (if not b then 1 + number_of paths w else 0) ≡ Some w
    by true same below go = ap Some (sym (way_equal w v same))
    by false same below go = after (number_of paths w) (go (omega arith))
