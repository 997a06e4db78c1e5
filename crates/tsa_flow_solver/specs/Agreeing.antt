-- Edges that are compared with all that is brought where they lead.
use Rattle.std.specs.Prelude.{ℕ, ◌<◌, ◌≡◌, ◌⊎◌, Bool, true, false, List, All, Contains, length, Some, slice_get}
use Rattle.tsa_core.specs.Control.{Outcome}
use Rattle.tsa_graph_edges.specs.Links.{outcome_of}
use Rattle.tsa_graph.specs.declared.sequence.Block.{Block}
use Rattle.tsa_graph.specs.declared.sequence.Blocks.{Blocks}
use Rattle.tsa_graph.specs.declared.sequence.Exit.{Exit}
use Rattle.tsa_graph.specs.declared.sequence.Place.{Place}
use Rattle.tsa_rules.specs.declared.case.Case.{Case}
use Rattle.tsa_rules.specs.declared.status.Status.{Status}
use Rattle.tsa_rules.specs.declared.statuses.Statuses.{Statuses}
use Rattle.tsa_rules.specs.Sets.{Has, IsEmpty, IsImage}
use Rattle.tsa_flow_solver.specs.Courses.{Leaves}
use Rattle.tsa_flow_solver.specs.Joining.{IsInPlace}
use Rattle.tsa_flow_solver.specs.Rows.{AreWide, flag_at, set_at}

-- an edge that brings some status brings all of a set
abbrev pub Agrees : Statuses → (Status → Type 0) → Type 0
Agrees set Brings = (t s : Status) → Brings t → Has set s → Brings s

-- one that doesn't: it brings some status, and the set has one that it doesn't bring
pub record Lacks (set : Statuses) (Brings : Status → Type 0) : Type 0 where
  pub brought : Status
  pub brings : Brings brought
  pub lacked : Status
  pub has : Has set lacked
  pub lacks : Brings lacked → ⊥

-- so is one that brings statuses of the set alone, but not all
abbrev pub Differs : Statuses → (Status → Type 0) → Type 0
Differs set Brings = ((t : Status) → Brings t → Has set t) → Lacks set Brings

-- A set has statuses and is not all that is brought; or it has none, or is all of it.
abbrev pub IsApart : (set brought : Statuses) → Type 0
IsApart set brought = (IsEmpty set → ⊥) × (set ≡ brought → ⊥)

abbrev pub IsAlike : (set brought : Statuses) → Type 0
IsAlike set brought = IsEmpty set ⊎ (set ≡ brought)

-- In a lane of so many the statuses that an edge brings are compared with all that are brought.
pub data IsLaneCompared (set brought : Statuses) (old new : Bool) : Type 0 where
  stays : IsAlike set brought → new ≡ old → IsLaneCompared set brought old new
  goes : Differs brought (Has set) → new ≡ false → IsLaneCompared set brought old new

pub record AreLanesCompared (count : ℕ) (set brought : List Statuses) (old new : List Bool) : Type 0 where
  pub long : length new ≡ length old
  pub each : (l : ℕ) → l < count → IsLaneCompared (set_at set l) (set_at brought l) (flag_at old l) (flag_at new l)

-- rows and flags for so many lanes and blocks; and flags that stay as many
pub record IsSized (count blocks : ℕ) (rows : List (List Statuses)) (flags : List (List Bool)) : Type 0 where
  pub many_rows : length rows ≡ blocks
  pub many_flags : length flags ≡ blocks
  pub wide : AreWide count rows
  pub flagged : All (λ row. length row ≡ count) flags

pub record AreFlagged (count : ℕ) (old new : List (List Bool)) : Type 0 where
  pub long : length new ≡ length old
  pub wide : All (λ row. length row ≡ count) new

-- Some edges are compared: a block keeps its flag where all of them that lead there agree with its set, and loses it only where one
-- differs.
pub record AreCompared (E : Type 0) (leads : E → ℕ → Type 0) (brings : E → Status → Type 0) (rows : List Statuses) (old new : List Bool) : Type 0 where
  pub long : length new ≡ length old
  pub kept : (c : ℕ) → flag_at new c ≡ true → (flag_at old c ≡ true) × ((e : E) → leads e c → Agrees (set_at rows c) (brings e))
  pub lost : (c : ℕ) → flag_at new c ≡ false → (flag_at old c ≡ false) ⊎ ((e : E) × (leads e c × Differs (set_at rows c) (brings e)))

-- one edge, the exits of a last point, and those of a block of the body
abbrev pub IsOneCompared : (block : ℕ) → Statuses → List Statuses → (old new : List Bool) → Type 0
IsOneCompared block set = AreCompared (Unit {0}) (λ e c. block ≡ c) (λ e s. Has set s)

abbrev pub AreExitsCompared : (Outcome → Status → Status) → Statuses → List Exit → List Statuses → (old new : List Bool) → Type 0
AreExitsCompared effect last exits = AreCompared Exit (λ x c. Contains exits x × (x.to ≡ c)) (λ x s. IsImage (effect (outcome_of x.outcome)) last s)

abbrev pub IsBlockCompared : (ℕ → Case) → Blocks → (number : ℕ) → List Statuses → (old new : List Bool) → Type 0
IsBlockCompared cases blocks number rows = AreCompared (Block × Exit) (λ e c. IsInPlace blocks number e.0 × (Contains e.0.exits.items e.1 × (e.1.to ≡ c))) (λ e s. Leaves cases e.0 (set_at rows number) (outcome_of e.1.outcome) s) rows

-- the edges into blocks: the entry, and the exits of the blocks of a body, by the numbers of these
pub data Arrival : Type 0 where
  at_entry : (at : Place) → Arrival
  by_exit : (number : ℕ) (b : Block) (x : Exit) → Arrival

abbrev pub leads_by : Blocks → (upto : ℕ) → Arrival → ℕ → Type 0
leads_by blocks upto (at_entry at) c = (slice_get blocks.places.items 0 ≡ Some at) × (at.block ≡ c)
leads_by blocks upto (by_exit number b x) c = (number < upto) × (IsInPlace blocks number b × (Contains b.exits.items x × (x.to ≡ c)))

abbrev pub brings_by : Status → (ℕ → Case) → List Statuses → Arrival → Status → Type 0
brings_by entry cases rows (at_entry at) s = s ≡ entry
brings_by entry cases rows (by_exit number b x) s = Leaves cases b (set_at rows number) (outcome_of x.outcome) s

abbrev pub AreArrivalsCompared : Status → (ℕ → Case) → Blocks → (upto : ℕ) → List Statuses → (old new : List Bool) → Type 0
AreArrivalsCompared entry cases blocks upto rows = AreCompared Arrival (leads_by blocks upto) (brings_by entry cases rows) rows
