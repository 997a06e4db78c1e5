-- Sets of statuses by block, and blocks that wait since their sets have grown.
use Rattle.std.specs.Prelude.{ℕ, ◌+◌, ◌<◌, ◌≤◌, ◌≡◌, ◌⊎◌, ◌++◌, ◌∷◌, Bool, [], List, All, Contains, length, slice_set, if◌then◌else◌}
use Rattle.tsa_core.specs.Control.{Outcome}
use Rattle.tsa_graph_edges.specs.Links.{outcome_of}
use Rattle.tsa_graph.specs.declared.sequence.Block.{Block}
use Rattle.tsa_graph.specs.declared.sequence.Exit.{Exit}
use Rattle.tsa_rules.specs.declared.case.Case.{Case}
use Rattle.tsa_rules.specs.declared.statuses.Statuses.{Statuses}
use Rattle.tsa_rules.specs.Sets.{Has}
use Rattle.tsa_rules.specs.declared.status.Status.{Status}
use Rattle.tsa_flow_solver.specs.Courses.{leaving}
use Rattle.tsa_flow_solver.specs.Passing.{ArePoints}
use Rattle.tsa_flow_solver.specs.Rows.{AreAllSmall, AreWide, IsTakenIn, lane_of, row_at, set_at, total}

-- nothing is lost
abbrev pub HasMore : (old new : List Statuses) → Type 0
HasMore old new = (c : ℕ) (s : Status) → Has (set_at old c) s → Has (set_at new c) s

-- a block's row takes in another one, and the block waits where some set of it has grown
pub record HasTakenIn (block : ℕ) (row : List Statuses) (old new : List (List Statuses)) (work work' : List ℕ) : Type 0 where
  pub taken : List Statuses
  pub grown : Bool
  pub is : IsTakenIn (row_at old block) row taken grown
  pub rows : new ≡ slice_set old block taken
  pub waits : work' ≡ (if grown then work ++ block ∷ [] else work)

-- an exit among some brings a status to a block
pub record IsBrought (effect : Outcome → Status → Status) (last : Statuses) (exits : List Exit) (block : ℕ) (t : Status) : Type 0 where
  pub by : Exit
  pub among : Contains exits by
  pub leads : by.to ≡ block
  pub before : Status
  pub gets : Has last before
  pub makes : effect (outcome_of by.outcome) before ≡ t

-- Exits are worked out in one lane: what they make of the statuses of a last point is taken in where they lead, and nothing else is. Each
-- block whose set has grown waits.
pub record WorkedOut (effect : Outcome → Status → Status) (last : Statuses) (exits : List Exit) (old new : List Statuses) (work work' : List ℕ) : Type 0 where
  pub long : length new ≡ length old
  pub more : HasMore old new
  pub takes : All (λ x. (s : Status) → Has last s → Has (set_at new x.to) (effect (outcome_of x.outcome) s)) exits
  pub only : (c : ℕ) (t : Status) → Has (set_at new c) t → Has (set_at old c) t ⊎ IsBrought effect last exits c t
  pub grows : (c : ℕ) → (set_at new c ≡ set_at old c) ⊎ Contains work' c

-- What waits stays so, is there, and is paid by greater sets.
pub record IsPaid (count : ℕ) (old new : List (List Statuses)) (work work' : List ℕ) : Type 0 where
  pub long : length new ≡ length old
  pub wide : AreWide count new
  pub small : AreAllSmall old → AreAllSmall new
  pub keeps : (c : ℕ) → Contains work c → Contains work' c
  pub within : All (λ c. c < length old) work → All (λ c. c < length old) work'
  pub pays : length work' + total old ≤ length work + total new

-- Exits of a block are worked out in all lanes.
pub record AreSpread (count points : ℕ) (cases : ℕ → ℕ → Case) (b : Block) (exits : List Exit) (last : List Statuses) (old new : List (List Statuses)) (work work' : List ℕ) : Type 0 where
  pub paid : IsPaid count old new work work'
  pub lanes : (l : ℕ) → ArePoints points b → l < count → WorkedOut (leaving (cases l) b) (set_at last l) exits (lane_of old l) (lane_of new l) work work'
