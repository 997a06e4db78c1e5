-- What is known of sets of statuses while blocks are worked out one by one.
use Rattle.std.specs.Prelude.{ℕ, ◌<◌, ◌≡◌, ◌⊎◌, List, All, Contains, length, Some, slice_get}
use Rattle.tsa_graph_edges.specs.Links.{outcome_of}
use Rattle.tsa_graph.specs.declared.sequence.Block.{Block}
use Rattle.tsa_graph.specs.declared.sequence.Blocks.{Blocks}
use Rattle.tsa_graph.specs.declared.sequence.Place.{Place}
use Rattle.tsa_graph.specs.Rows.{last_in, point_in}
use Rattle.tsa_rules.specs.declared.case.Case.{Case}
use Rattle.tsa_rules.specs.declared.statuses.Statuses.{Statuses}
use Rattle.tsa_rules.specs.Sets.{Has}
use Rattle.tsa_rules.specs.declared.status.Status.{Status}
use Rattle.tsa_rules.specs.Walks.{Course, ReachAt}
use Rattle.tsa_flow_solver.specs.Courses.{Carried, leaving}
use Rattle.tsa_flow_solver.specs.Fronts.{IsPaid, WorkedOut}
use Rattle.tsa_flow_solver.specs.Passing.{ArePoints, IsCarried}
use Rattle.tsa_flow_solver.specs.Rows.{AreAllSmall, AreWide, lane_of, set_at}

-- rows for so many lanes and blocks, and blocks that wait
pub record IsReady (count blocks : ℕ) (rows : List (List Statuses)) (work : List ℕ) : Type 0 where
  pub long : length rows ≡ blocks
  pub wide : AreWide count rows
  pub small : AreAllSmall rows
  pub within : All (λ c. c < blocks) work

-- the beginning in one lane: the block of the first point waits with the status at the entry
pub record HaveBegun (entry : Status) (blocks : Blocks) (rows : List Statuses) (work : List ℕ) : Type 0 where
  pub waits : (at : Place) → slice_get blocks.places.items 0 ≡ Some at → Contains work at.block
  pub begins : (at : Place) → slice_get blocks.places.items 0 ≡ Some at → Has (set_at rows at.block) entry
  pub only : (c : ℕ) (s : Status) → Has (set_at rows c) s → (s ≡ entry) × ((at : Place) × ((slice_get blocks.places.items 0 ≡ Some at) × (at.block ≡ c)))

-- one block is worked out in one lane
pub record IsTurn (cases : ℕ → Case) (blocks : List Block) (number : ℕ) (old new : List Statuses) (work work' : List ℕ) : Type 0 where
  pub block : Block
  pub is_there : slice_get blocks number ≡ Some block
  pub last : Statuses
  pub gets : IsCarried cases block (set_at old number) (last_in block) last
  pub out : WorkedOut (leaving cases block) last block.exits.items old new work work'

-- and in all lanes
pub record AreTurned (count points : ℕ) (cases : ℕ → ℕ → Case) (blocks : List Block) (number : ℕ) (old new : List (List Statuses)) (work work' : List ℕ) : Type 0 where
  pub paid : IsPaid count old new work work'
  pub lanes : (l : ℕ) → All (ArePoints points) blocks → l < count → IsTurn (cases l) blocks number (lane_of old l) (lane_of new l) work work'

-- what a block makes of a set is in the sets where its exits lead
abbrev pub IsClosedBy : (ℕ → Case) → Block → Statuses → List Statuses → Type 0
IsClosedBy cases b set rows = All (λ x. (s : Status) → Carried cases b set (last_in b) s → Has (set_at rows x.to) (leaving cases b (outcome_of x.outcome) s)) b.exits.items

abbrev pub AreClosed : (ℕ → Case) → List Block → List Statuses → Type 0
AreClosed cases blocks rows = (c : ℕ) (b : Block) → slice_get blocks c ≡ Some b → IsClosedBy cases b (set_at rows c) rows

-- each block waits, or that is so of it
abbrev pub AreOpen : (ℕ → Case) → List Block → List Statuses → List ℕ → Type 0
AreOpen cases blocks rows work = (c : ℕ) (b : Block) → slice_get blocks c ≡ Some b → Contains work c ⊎ IsClosedBy cases b (set_at rows c) rows

-- each status of a set is one that walks bring to the block's first point
abbrev pub AreSound : Course → List Block → List Statuses → Type 0
AreSound k blocks rows = (c : ℕ) (b : Block) → slice_get blocks c ≡ Some b → (s : Status) → Has (set_at rows c) s → ReachAt k (point_in b 0) s
