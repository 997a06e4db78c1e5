-- Ranks written one after another: each number gets its place.
use Rattle.std.proofs.Common.{◌≡◌, ◌<◌, ◌+◌, ℕ, nat_lt, Bool, true, false, List, length, slice_index_or, set, refl, sym, ap, ◌∙◌, arith}
use Rattle.std.specs.List.{range_with_len}
use Rattle.std.specs.List.Sorted.{IsPermutation}
use Rattle.std.proofs.lemmas.List.{length-set, get_or-set_same, get_or-set_other}
use Rattle.std.proofs.lemmas.List.Elements.{All-get_or}
use borrow.Author.Tests.{ltb-true, ltb-false}
use Rattle.tsa_warn_text.proofs.Sorting.{moved_differ, moved_below}

-- the ranks of the first numbers of an order are their places
pub record PlacesUpTo (order ranks : List ℕ) (end : ℕ) : Type 0 where
  pub long : length ranks ≡ length order
  pub places : IsPermutation (range_with_len 0 (length order)) order → (place : ℕ) → place < end → slice_index_or ranks (slice_index_or order place 0) 0 ≡ place

pub placed_more : (order ranks : List ℕ) (end : ℕ) → end < length order → PlacesUpTo order ranks end → PlacesUpTo order (set ranks (slice_index_or order end 0) end) (end + 1)
placed_more order ranks end within h = record {
  long = length-set ranks (slice_index_or order end 0) end ∙ h.long;
  places = λ moved place before. by moved place before (nat_lt place end) refl;
}
  where
    by : IsPermutation (range_with_len 0 (length order)) order → (place : ℕ) → place < end + 1 → (t : Bool) → nat_lt place end ≡ t
        → slice_index_or (set ranks (slice_index_or order end 0) end) (slice_index_or order place 0) 0 ≡ place
    by moved place before true e =
        let first : place < end = ltb-true place end e in
        get_or-set_other ranks (slice_index_or order end 0) (slice_index_or order place 0) end 0 (moved_differ (length order) order moved place end 0 first within)
        ∙ h.places moved place first
    by moved place before false e =
        let past = ltb-false place end e in
        let same : place ≡ end = omega arith in
        let below : slice_index_or order end 0 < length order = All-get_or (λ a. a < length order) order end 0 within (moved_below (length order) order moved) in
        ap (λ k. slice_index_or (set ranks (slice_index_or order end 0) end) (slice_index_or order k 0) 0) same
        ∙ get_or-set_same ranks (slice_index_or order end 0) end 0 (omega (arith, h.long)) ∙ sym same
