-- The lanes that something claims or tries at the points of a body.
use Rattle.std.specs.Prelude.{ℕ, ◌≡◌, ◌<◌, ◌≤◌, List, [], ◌∷◌, All, Contains, length, slice_index_or}
use Rattle.tsa_flow_solver.specs.Rows.{AreRising}

abbrev pub list_at : List (List ℕ) → (number : ℕ) → List ℕ
list_at lists n = slice_index_or lists n []

-- lanes in order, none of which is above one
abbrev pub IsOpen : (lane : ℕ) → List (List ℕ) → Type 0
IsOpen lane lists = (p : ℕ) → AreRising (list_at lists p) × All (λ l. l ≤ lane) (list_at lists p)

-- a lane is put behind those of some points
pub record HaveLanes (points : List ℕ) (lane : ℕ) (old new : List (List ℕ)) : Type 0 where
  pub long : length new ≡ length old
  pub fits : IsOpen lane new
  pub keeps : (p l : ℕ) → Contains (list_at old p) l → Contains (list_at new p) l
  pub has : (p : ℕ) → Contains points p → p < length old → Contains (list_at new p) lane

abbrev pub HasLane : (point lane : ℕ) → (old new : List (List ℕ)) → Type 0
HasLane point lane = HaveLanes (point ∷ []) lane

-- the lanes of so many points, by the points of each path and the paths of lanes
pub record AreLanesAt (points : ℕ) (claims : List (List ℕ)) (caps : List ℕ) (lists : List (List ℕ)) : Type 0 where
  pub rising : (p : ℕ) → AreRising (list_at lists p)
  pub all : (lane p : ℕ) → lane < length caps → p < points → Contains (list_at claims (slice_index_or caps lane 0)) p → Contains (list_at lists p) lane
