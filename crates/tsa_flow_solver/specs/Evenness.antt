-- Edges that bring a block all that its set has: each brings the same, so that none of them disagree.
use Rattle.std.specs.Prelude.{ℕ, ◌<◌, ◌≡◌, ◌⊎◌, Bool, true, List, Contains, Some, slice_get}
use Rattle.tsa_core.specs.Control.{Outcome}
use Rattle.tsa_graph_edges.specs.declared.link.Outcome as code
use Rattle.tsa_graph_edges.specs.Links.{outcome_of}
use Rattle.tsa_graph.specs.declared.sequence.Block.{Block}
use Rattle.tsa_graph.specs.declared.sequence.Blocks.{Blocks}
use Rattle.tsa_graph.specs.declared.sequence.Exit.{Exit}
use Rattle.tsa_graph.specs.declared.sequence.Place.{Place}
use Rattle.tsa_graph.specs.Rows.{last_in}
use Rattle.tsa_rules.specs.declared.case.Case.{Case}
use Rattle.tsa_rules.specs.declared.status.Status.{Status}
use Rattle.tsa_rules.specs.declared.statuses.Statuses.{Statuses}
use Rattle.tsa_rules.specs.Sets.{Has, IsEmpty, IsImage}
use Rattle.tsa_flow_solver.specs.Agreeing.{Agrees}
use Rattle.tsa_flow_solver.specs.Courses.{Leaves, leaving}
use Rattle.tsa_flow_solver.specs.Fronts.{HasTakenIn}
use Rattle.tsa_flow_solver.specs.Passing.{ArePoints, IsCarried, IsLeft}
use Rattle.tsa_flow_solver.specs.Rows.{row_at, set_at}

-- Rows are even as long as each that is taken in is the one that is there, or the first.
abbrev pub StaysEven : (there row : List Statuses) → (before after : Bool) → Type 0
StaysEven there row before after = after ≡ true → (before ≡ true) × ((there ≡ row) ⊎ ((lane : ℕ) → IsEmpty (set_at there lane)))

-- An exit of a block is worked out in all lanes: a row of what it makes of the statuses of the last point is taken in where it leads.
pub record HasFollowed (count points : ℕ) (cases : ℕ → ℕ → Case) (b : Block) (outcome : code.Outcome) (to : ℕ) (last : List Statuses) (old new : List (List Statuses)) (work work' : List ℕ) (before after : Bool) : Type 0 where
  pub row : List Statuses
  pub left : (l : ℕ) → ArePoints points b → l < count → IsLeft (cases l) b outcome (set_at last l) (set_at row l)
  pub taken : HasTakenIn to row old new work work'
  pub even : StaysEven (row_at old to) row before after

-- Exits are worked out evenly in one lane: a set that had statuses has no others afterwards, and each exit brings all that is where it leads.
pub record IsSpreadEvenly (effect : Outcome → Status → Status) (last : Statuses) (exits : List Exit) (old new : List Statuses) (before after : Bool) : Type 0 where
  pub was : after ≡ true → before ≡ true
  pub steady : after ≡ true → (c : ℕ) → Agrees (set_at new c) (Has (set_at old c))
  pub agree : after ≡ true → (x : Exit) → Contains exits x → Agrees (set_at new x.to) (IsImage (effect (outcome_of x.outcome)) last)

-- so is a block
pub record IsTurnedEvenly (cases : ℕ → Case) (blocks : List Block) (number : ℕ) (old new : List Statuses) (before after : Bool) : Type 0 where
  pub block : Block
  pub is_there : slice_get blocks number ≡ Some block
  pub last : Statuses
  pub gets : IsCarried cases block (set_at old number) (last_in block) last
  pub out : IsSpreadEvenly (leaving cases block) last block.exits.items old new before after

-- what a block makes of a set is all that is where its exits lead
abbrev pub IsEvenBy : (ℕ → Case) → Block → Statuses → List Statuses → Type 0
IsEvenBy cases b set rows = (x : Exit) → Contains b.exits.items x → Agrees (set_at rows x.to) (Leaves cases b set (outcome_of x.outcome))

-- each block waits, or that is so of it
abbrev pub AreEvenOrWait : (ℕ → Case) → List Block → List Statuses → List ℕ → Type 0
AreEvenOrWait cases blocks rows work = (c : ℕ) (b : Block) → slice_get blocks c ≡ Some b → Contains work c ⊎ IsEvenBy cases b (set_at rows c) rows

-- the status at the entry is all that is where the first point stands
abbrev pub IsEnteredEvenly : Status → Blocks → List Statuses → Type 0
IsEnteredEvenly entry blocks rows = (at : Place) → slice_get blocks.places.items 0 ≡ Some at → Has (set_at rows at.block) entry × ((s : Status) → Has (set_at rows at.block) s → s ≡ entry)

-- All edges of a body bring all that is where they lead.
pub record AreEven (entry : Status) (cases : ℕ → Case) (blocks : Blocks) (rows : List Statuses) : Type 0 where
  pub entered : IsEnteredEvenly entry blocks rows
  pub all : (c : ℕ) (b : Block) → slice_get blocks.blocks.items c ≡ Some b → IsEvenBy cases b (set_at rows c) rows
