-- Paths by what they are told by, the order of their numbers, and the ranks in it.
use Rattle.std.specs.Prelude.{◌≡◌, ◌<◌, ℕ, nat_lt, Bool, true, ◌&&◌, List, [], length, map, count_by, slice_get, slice_index_or, AllPairs}
use Rattle.std.specs.Option.{unwrap_or}
use Rattle.std.specs.List.{range_with_len}
use Rattle.std.specs.declared.cmp.Ordering.{Ordering}
use Rattle.std.specs.List.Sorted.{IsPermutation}
use Rattle.std.specs.Ordering.{nat_cmp, is_lt, on, then_cmp}
use Rattle.std.specs.Cmp.Lexicographic.{slice_cmp}

-- what a path is told by: its text, and the locals that it mentions
pub record PathText : Type 0 where
  pub text : List ℕ
  pub locals : List ℕ

-- the numbers of some paths, from 0 on
abbrev pub numbers_of : List PathText → List ℕ
numbers_of texts = range_with_len 0 (length texts)

-- a number that no path has is told by nothing
abbrev pub told_by : List PathText → ℕ → PathText
told_by texts number = unwrap_or (slice_get texts number) (record { text = []; locals = [] })

-- how two numbers compare: by the texts of their paths, then by the locals that those mention, and last as numbers
abbrev pub told_cmp : List PathText → ℕ → ℕ → Ordering
told_cmp texts = then_cmp (then_cmp (on (λ n. (told_by texts n).text) (slice_cmp nat_cmp)) (on (λ n. (told_by texts n).locals) (slice_cmp nat_cmp))) nat_cmp

-- whether the path of a number is told before that of another; only numbers that paths have are told
abbrev pub is_told_before : List PathText → ℕ → ℕ → Bool
is_told_before texts a b = nat_lt a (length texts) && (nat_lt b (length texts) && is_lt (told_cmp texts a b))

-- the rank of a number: how many are told before it
abbrev pub rank_in : List PathText → ℕ → ℕ
rank_in texts number = count_by (λ other. is_told_before texts other number) (numbers_of texts)

-- the ranks of all numbers, from that of 0 on
abbrev pub ranks_in : List PathText → List ℕ
ranks_in texts = map (rank_in texts) (numbers_of texts)

-- all numbers once and no others, in the order in which their paths are told
pub record IsOrder (texts : List PathText) (order : List ℕ) : Type 0 where
  pub each : IsPermutation (numbers_of texts) order
  pub told : AllPairs (λ a b. is_told_before texts a b ≡ true) order

-- the ranks are as many as the numbers of an order, and where that has all below their count, each once, the rank of a number is its place
pub record RanksArePlaces (order ranks : List ℕ) : Type 0 where
  pub long : length ranks ≡ length order
  pub places : IsPermutation (range_with_len 0 (length order)) order → (place : ℕ) → place < length order → slice_index_or ranks (slice_index_or order place 0) 0 ≡ place
