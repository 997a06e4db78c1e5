-- The statuses at each fourth place of blocks.
use Rattle.std.specs.Prelude.{ℕ, ◌≡◌, ◌<◌, ◌*◌, ◌++◌, ◌∷◌, ◌⊎◌, List, [], length, Some, slice_get, slice_index_or}
use Rattle.tsa_graph.specs.declared.sequence.Block.{Block}
use Rattle.tsa_graph.specs.Rows.{last_in}
use Rattle.tsa_rules.specs.declared.case.Case.{Case}
use Rattle.tsa_rules.specs.declared.statuses.Statuses.{Statuses}
use Rattle.tsa_flow_solver.specs.Passing.{IsCarried}
use Rattle.tsa_flow_solver.specs.Rows.{row_at, set_at}

-- a row is put behind stages where the next one begins
abbrev pub IsNoted : (row : List Statuses) → (index : ℕ) → (old new : List (List Statuses)) → Type 0
IsNoted row index old new = (new ≡ old) ⊎ ((index ≡ length old * 4) × (new ≡ old ++ row ∷ []))

-- each stage that is there has what the statuses at the first point become, in one lane
abbrev pub AreStages : (ℕ → Case) → Block → (from : Statuses) → (lane : ℕ) → List (List Statuses) → Type 0
AreStages cases b from lane stages = (k : ℕ) (row : List Statuses) → slice_get stages k ≡ Some row → (k * 4 < last_in b) × IsCarried cases b from (k * 4) (set_at row lane)

abbrev pub AreStaged : (ℕ → Case) → List Block → (rows : List (List Statuses)) → (lane : ℕ) → List (List (List Statuses)) → Type 0
AreStaged cases blocks rows lane stages = (c : ℕ) (b : Block) → slice_get blocks c ≡ Some b → AreStages cases b (set_at (row_at rows c) lane) lane (slice_index_or stages c [])
