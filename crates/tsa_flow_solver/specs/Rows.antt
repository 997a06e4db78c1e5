-- Statuses of several lanes at once: a row has a set for each lane, and a grid a row for each block.
use Rattle.std.specs.Prelude.{ℕ, ◌^◌, ◌<◌, ◌≡◌, Bool, true, false, List, [], All, map, length, bit_or, slice_index_or}
use Rattle.std.specs.List.{sum_by}
use Rattle.tsa_rules.specs.declared.statuses.Statuses.{Statuses}

abbrev pub no_statuses : Statuses
no_statuses = record { bits = 0 }

-- the set of a lane in a row, or of a block in one lane
abbrev pub set_at : List Statuses → (at : ℕ) → Statuses
set_at sets c = slice_index_or sets c no_statuses

abbrev pub union : Statuses → Statuses → Statuses
union a b = record { bits = bit_or a.bits b.bits }

-- sets have 64 bits
abbrev pub AreSmall : List Statuses → Type 0
AreSmall sets = (c : ℕ) → (set_at sets c).bits < 2 ^ 64

-- what sets amount to, which is more where one has grown
abbrev pub weight : List Statuses → ℕ
weight sets = sum_by (λ set. set.bits) sets

-- A row takes in another one, and whether some set has grown.
pub record IsTakenIn (old other new : List Statuses) (grown : Bool) : Type 0 where
  pub long : length new ≡ length old
  pub each : (lane : ℕ) → lane < length old → set_at new lane ≡ union (set_at old lane) (set_at other lane)
  pub small : AreSmall old → AreSmall new
  pub same : grown ≡ false → new ≡ old
  pub more : grown ≡ true → weight old < weight new

-- the row of a block
abbrev pub row_at : List (List Statuses) → (block : ℕ) → List Statuses
row_at grid c = slice_index_or grid c []

-- all rows have so many lanes, and sets of 64 bits
abbrev pub AreWide : (count : ℕ) → List (List Statuses) → Type 0
AreWide n grid = All (λ row. length row ≡ n) grid

abbrev pub AreAllSmall : List (List Statuses) → Type 0
AreAllSmall grid = (c : ℕ) → AreSmall (row_at grid c)

abbrev pub total : List (List Statuses) → ℕ
total grid = sum_by weight grid

-- the sets of one lane, block by block
abbrev pub lane_of : List (List Statuses) → (lane : ℕ) → List Statuses
lane_of grid l = map (λ row. set_at row l) grid

-- whether no edges disagree in a lane, or at a block in one lane
abbrev pub flag_at : List Bool → (at : ℕ) → Bool
flag_at flags c = slice_index_or flags c true

abbrev pub flags_of : List (List Bool) → (lane : ℕ) → List Bool
flags_of grid l = map (λ flags. flag_at flags l) grid

-- numbers in order, each once
abbrev pub AreRising : List ℕ → Type 0
AreRising xs = (i j : ℕ) → i < j → j < length xs → slice_index_or xs i 0 < slice_index_or xs j 0
