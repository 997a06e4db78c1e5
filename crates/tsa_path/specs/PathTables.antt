-- Tables of paths: each path once, numbered from 0 in the order in which they came.
use Rattle.std.specs.Prelude.{◌≡◌, ℕ, ◌≤◌, nat_le, Bool, false, not, ◌&&◌, List, [], ◌∷◌, ◌++◌, length, Some, slice_get, if◌then◌else◌}
use Rattle.std.specs.List.{list_any, position_or_len}
use Rattle.tsa_place_model.specs.Ways.{Way}
use Rattle.tsa_path.specs.Sameness.{same_way}
use Rattle.tsa_path.specs.declared.refusal.InternRefusal.{InternRefusal}
use Rattle.tsa_path.specs.declared.refusal.InternRefusal.TheVariants.{Full, NoMemory}

-- a function has no more paths
abbrev pub path_limit : ℕ
path_limit = 256

abbrev pub is_known : List Way → Way → Bool
is_known ways w = list_any (same_way w) ways

-- the number of a path: its own where it is known, and else the next
abbrev pub number_of : List Way → Way → ℕ
number_of ways w = position_or_len (same_way w) ways

-- a new path comes after all others
abbrev pub with_path : List Way → Way → List Way
with_path ways w = if is_known ways w then ways else ways ++ w ∷ []

-- there is no room for a new path
abbrev pub is_full : List Way → Way → Bool
is_full ways w = not (is_known ways w) && nat_le path_limit (length ways)

-- why a path isn't taken: there is no room for it, or memory is wanted
abbrev pub refusal : List Way → Way → InternRefusal
refusal ways w = if is_full ways w then Full w else NoMemory w

-- no path stands twice
abbrev pub AreDifferent : List Way → Type 0
AreDifferent ways = (i j : ℕ) (w : Way) → slice_get ways i ≡ Some w → slice_get ways j ≡ Some w → i ≡ j

-- Different paths stay different, and there are never more than the limit.
abbrev pub TableHoldsDifferentPaths : Type 0
TableHoldsDifferentPaths = (ways : List Way) (w : Way) → AreDifferent ways → AreDifferent (with_path ways w)

abbrev pub TableStaysWithinItsLimit : Type 0
TableStaysWithinItsLimit = (ways : List Way) (w : Way) → length ways ≤ path_limit → is_full ways w ≡ false → length (with_path ways w) ≤ path_limit

-- A path stands at its number, a known one changes nothing, and what stands at a number stays there.
pub record NumbersStay : Type 0 where
  pub stands : (ways : List Way) (w : Way) → slice_get (with_path ways w) (number_of ways w) ≡ Some w
  pub known : (ways : List Way) (w : Way) (n : ℕ) → slice_get ways n ≡ Some w → with_path ways w ≡ ways
  pub stays : (ways : List Way) (v w : Way) (n : ℕ) → slice_get ways n ≡ Some w → slice_get (with_path ways v) n ≡ Some w
