-- Sorted numbers: each comes before all that follow it.
use Rattle.std.proofs.Common.{◌≡◌, ◌<◌, ℕ, Bool, true, false, nat_eq, ◌==◌, List, length, All, AllPairs, refl, subst, is_lt, arith}
use Rattle.std.specs.List.{range_with_len, IsDistinct}
use Rattle.std.specs.List.Sorted.{IsPermutation, IsSorted}
use Rattle.std.proofs.lemmas.List.Sorted.{ranks_by, sorted_far, All-permutation}
use Rattle.std.proofs.lemmas.List.FromFn.{length-range_with_len, get_or-range_with_len}
use Rattle.std.proofs.lemmas.List.Elements.{All-get_or, All-from_get_or}
use Rattle.std.proofs.lemmas.Map.Keys.{apart_from_distinct, IsDistinct-from_apart, IsDistinct-IsPermutation}
use Rattle.std.proofs.lemmas.Cmp.{nat_eq_equiv}
use borrow.Author.Tests.{eqb-true, eqb-false}
use Rattle.tsa_warn_text.specs.Ranks.{PathText, numbers_of, told_cmp, is_told_before, IsOrder}
use Rattle.tsa_warn_text.proofs.Comparing.{told_cmp_total, not_after, told_before}

not_equal : (a b : ℕ) (t : Bool) → a == b ≡ t → ¬ (a ≡ b) → t ≡ false
not_equal a b true e other = absurd (other (eqb-true a b e))
not_equal a b false e other = refl

-- no number stands twice in a range
range_distinct : (n : ℕ) → IsDistinct nat_eq (range_with_len 0 n)
range_distinct n = IsDistinct-from_apart nat_eq (range_with_len 0 n) (λ i j d before within.
    let long = length-range_with_len 0 n in
    let one = get_or-range_with_len 0 n i d (omega arith) in
    let two = get_or-range_with_len 0 n j d (omega arith) in
    not_equal _ _ _ refl (λ same. omega arith))

-- nor in what has the same numbers
pub moved_differ : (n : ℕ) (xs : List ℕ) → IsPermutation (range_with_len 0 n) xs → AllPairs (λ a b. ¬ (a ≡ b)) xs
moved_differ n xs moved i j d before within =
    eqb-false _ _ (apart_from_distinct nat_eq xs i j d (IsDistinct-IsPermutation nat_eq nat_eq_equiv.symm (range_with_len 0 n) xs moved (range_distinct n)) before within)

pub moved_below : (n : ℕ) (xs : List ℕ) → IsPermutation (range_with_len 0 n) xs → All (λ a. a < n) xs
moved_below n xs moved = All-permutation (λ a. a < n) (range_with_len 0 n) xs moved (All-from_get_or (λ a. a < n) (range_with_len 0 n) 0 (λ i within.
    let long = length-range_with_len 0 n in
    let is = get_or-range_with_len 0 n i 0 (omega arith) in
    omega arith))

-- the numbers of paths, sorted by how they compare, are told one before another
pub sorted_are_told : (texts : List PathText) (order : List ℕ) → IsPermutation (numbers_of texts) order → IsSorted (told_cmp texts) order → AllPairs (λ a b. is_told_before texts a b ≡ true) order
sorted_are_told texts order moved up i j d before within =
    let below = moved_below (length texts) order moved in
    told_before texts _ _ (record {
      first = All-get_or (λ a. a < length texts) order i d (omega arith) below;
      second = All-get_or (λ a. a < length texts) order j d within below;
      less = not_after texts _ _ (moved_differ (length texts) order moved i j d before within)
          (sorted_far (λ a b. is_lt (told_cmp texts a b)) (ranks_by (told_cmp_total texts) (λ a. a)) order up i j d (omega arith) within);
    })

-- the numbers below a count, sorted, are the order of so many paths
pub order_is : (texts : List PathText) (order : List ℕ) (count : ℕ) → count ≡ length texts → IsPermutation (range_with_len 0 count) order → IsSorted (told_cmp texts) order → IsOrder texts order
order_is texts order count same moved up =
    let each : IsPermutation (numbers_of texts) order = subst (λ n. IsPermutation (range_with_len 0 n) order) same moved in
    record { each = each; told = sorted_are_told texts order each up }
