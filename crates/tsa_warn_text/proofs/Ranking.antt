-- Ranks: the places of numbers in the order in which their paths are told.
use Rattle.std.proofs.Common.{◌≡◌, ◌<◌, ◌≤◌, ℕ, nat_lt, Bool, true, false, List, length, slice_index_or, slice_get, unwrap_or, map}
use Rattle.std.proofs.Common.{AllPairs, ◌⊎◌, inl, inr, refl, sym, ap, subst, ◌∙◌, arith}
use Rattle.std.specs.List.{range_with_len, Contains}
use Rattle.std.specs.List.Sorted.{IsPermutation}
use Rattle.std.proofs.lemmas.List.{same_lists, length-map, get_or-map, get_or_default, get_or_past}
use Rattle.std.proofs.lemmas.List.Sorted.{length_permutation, Contains-permutation}
use Rattle.std.proofs.lemmas.List.FromFn.{length-range_with_len, get_or-range_with_len, length-map-range_with_len}
use Rattle.std.proofs.lemmas.List.FromFn.{get_or-map-range_with_len, fill_by_all}
use Rattle.std.proofs.lemmas.Option.{unwrap_or-slice_get}
use borrow.Author.Tests.{ltb-true, ltb-false}
use Rattle.tsa_warn_text.specs.Ranks.{PathText, numbers_of, is_told_before, rank_in, ranks_in, IsOrder, RanksArePlaces}
use Rattle.tsa_warn_text.proofs.Comparing.{not_itself, not_both, chained, one_is_before, compares}
use Rattle.tsa_warn_text.proofs.Counting.{count_in_front, count_moved, count_more}

same_or_below : (k i : ℕ) → k ≤ i → (k ≡ i) ⊎ (k < i)
same_or_below k i h = by (nat_lt k i) refl
  where
    by : (t : Bool) → nat_lt k i ≡ t → (k ≡ i) ⊎ (k < i)
    by true e = inr (ltb-true k i e)
    by false e = let past = ltb-false k i e in inl (omega arith)

-- the rank of what stands at a place of the order is the place
pub rank_at : (texts : List PathText) (order : List ℕ) → IsPermutation (numbers_of texts) order → AllPairs (λ a b. is_told_before texts a b ≡ true) order
    → (k : ℕ) → k < length order → rank_in texts (slice_index_or order k 0) ≡ k
rank_at texts order moved told k within =
    sym (count_moved (λ other. is_told_before texts other (slice_index_or order k 0)) (numbers_of texts) order moved)
    ∙ count_in_front (λ other. is_told_before texts other (slice_index_or order k 0)) order k (omega arith) (λ i h. told i k 0 h within) rest
  where
    by : (i : ℕ) → i < length order → (k ≡ i) ⊎ (k < i) → is_told_before texts (slice_index_or order i 0) (slice_index_or order k 0) ≡ false
    by i there (inl same) = subst (λ n. is_told_before texts (slice_index_or order n 0) (slice_index_or order k 0) ≡ false) same (not_itself texts (slice_index_or order k 0))
    by i there (inr later) = not_both texts (slice_index_or order k 0) (slice_index_or order i 0) (told k i 0 later there)

    rest : (i : ℕ) → k ≤ i → i < length order → is_told_before texts (slice_index_or order i 0) (slice_index_or order k 0) ≡ false
    rest i h there = by i there (same_or_below k i h)

-- so the ranks along the order are the places
pub ranks_along : (texts : List PathText) (order : List ℕ) → IsPermutation (numbers_of texts) order → AllPairs (λ a b. is_told_before texts a b ≡ true) order → map (rank_in texts) order ≡ numbers_of texts
ranks_along texts order moved told =
    let moved_length = length_permutation (numbers_of texts) order moved in
    let range = length-range_with_len 0 (length texts) in
    let mapped = length-map order (rank_in texts) in
    same_lists _ _ (omega arith) (λ k d within.
    let is : slice_index_or (numbers_of texts) k d ≡ k = get_or-range_with_len 0 (length texts) k d (omega arith) ∙ omega arith in
    get_or-map (rank_in texts) order k 0 d (omega arith) ∙ rank_at texts order moved told k (omega arith) ∙ sym is)

-- what is told before another has the lower rank
pub lower_rank : (texts : List PathText) (a b : ℕ) → is_told_before texts a b ≡ true → rank_in texts a < rank_in texts b
lower_rank texts a b e =
    let there = (compares texts a b e).first in
    let range = length-range_with_len 0 (length texts) in
    let is : slice_index_or (numbers_of texts) a 0 ≡ a = get_or-range_with_len 0 (length texts) a 0 there ∙ omega arith in
    count_more (λ other. is_told_before texts other a) (λ other. is_told_before texts other b) (numbers_of texts) a
    (λ other before. chained texts other a b before e)
    (omega arith)
    (subst (λ n. is_told_before texts n a ≡ false) (sym is) (not_itself texts a))
    (subst (λ n. is_told_before texts n b ≡ true) (sym is) e)

-- and what has the lower rank is told before
pub before_by_rank : (texts : List PathText) (a b : ℕ) → a < length texts → b < length texts → rank_in texts a < rank_in texts b → is_told_before texts a b ≡ true
before_by_rank texts a b first second lower = by (one_is_before texts a b first second (λ same. let e : rank_in texts a ≡ rank_in texts b = ap (rank_in texts) same in omega arith))
  where
    by : (is_told_before texts a b ≡ true) ⊎ (is_told_before texts b a ≡ true) → is_told_before texts a b ≡ true
    by (inl before) = before
    by (inr after) = let back = lower_rank texts b a after in absurd (omega arith)

-- each number below the count stands somewhere in the order
place_of : (n : ℕ) (order : List ℕ) (number : ℕ) → number < n → IsPermutation (range_with_len 0 n) order → Contains order number
place_of n order number within moved =
    let long = length-range_with_len 0 n in
    let is : slice_index_or (range_with_len 0 n) number number ≡ number = get_or-range_with_len 0 n number number within ∙ omega arith in
    Contains-permutation (range_with_len 0 n) order number moved (number, (omega arith), is)

-- so where ranks are the places in the order, they are the ranks of all numbers
pub places_are_ranks : (texts : List PathText) (order ranks : List ℕ) → IsOrder texts order → RanksArePlaces order ranks → ranks ≡ ranks_in texts
places_are_ranks texts order ranks whole placed = fill_by_all (rank_in texts) ranks (length texts) 0 (placed.long ∙ sym counted) at
  where
    counted : length texts ≡ length order
    counted = sym (length_permutation (numbers_of texts) order whole.each ∙ length-range_with_len 0 (length texts))

    moved : IsPermutation (range_with_len 0 (length order)) order
    moved = subst (λ n. IsPermutation (range_with_len 0 n) order) counted whole.each

    by : (number : ℕ) → Contains order number → slice_index_or ranks number 0 ≡ rank_in texts number
    by number (place, within, is) =
        let stands : slice_index_or order place 0 ≡ number = get_or_default order place 0 number within ∙ is in
        subst (λ a. slice_index_or ranks a 0 ≡ rank_in texts a) stands (placed.places moved place within ∙ sym (rank_at texts order whole.each whole.told place within))

    at : (number : ℕ) → number < length texts → slice_index_or ranks number 0 ≡ rank_in texts number
    at number within = by number (place_of (length texts) order number within whole.each)

-- a number that isn't there has rank 0
no_rank : (texts : List PathText) (number : ℕ) → length texts ≤ number → rank_in texts number ≡ 0
no_rank texts number past = count_in_front (λ other. is_told_before texts other number) (numbers_of texts) 0 (omega arith) (λ i h. absurd (omega arith)) (λ i h within. by i (is_told_before texts _ number) refl)
  where
    by : (i : ℕ) (t : Bool) → is_told_before texts (slice_index_or (numbers_of texts) i 0) number ≡ t → t ≡ false
    by i true e = let within = (compares texts _ number e).second in absurd (omega arith)
    by i false e = refl

-- the rank that is kept at a number is its own
pub kept_rank : (texts : List PathText) (ranks : List ℕ) (number : ℕ) → ranks ≡ ranks_in texts → unwrap_or (slice_get ranks number) 0 ≡ rank_in texts number
kept_rank texts ranks number all = ap (λ l. unwrap_or (slice_get l number) 0) all ∙ unwrap_or-slice_get (ranks_in texts) number 0 ∙ by (nat_lt number (length texts)) refl
  where
    by : (t : Bool) → nat_lt number (length texts) ≡ t → slice_index_or (ranks_in texts) number 0 ≡ rank_in texts number
    by true e = get_or-map-range_with_len (rank_in texts) 0 (length texts) number number 0 (ltb-true number (length texts) e) (omega arith)
    by false e =
        let past : length texts ≤ number = ltb-false number (length texts) e in
        get_or_past (ranks_in texts) number 0 (omega (arith, length-map-range_with_len (rank_in texts) 0 (length texts))) ∙ sym (no_rank texts number past)
