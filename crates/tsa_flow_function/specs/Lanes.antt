-- Lanes of a function: each path has one, and those that nothing claims or tries share it where they have the same status at the entry.
use Rattle.std.specs.Prelude.{ℕ, nat_eq, ◌≡◌, ◌<◌, ◌++◌, ◌∷◌, true, List, [], All, Contains, length, is_some, Some, slice_get}
use Rattle.std.specs.Prelude.{slice_index_or}
use Rattle.std.specs.List.{list_any}
use Rattle.tsa_flow_solver.specs.Rows.{AreRising}
use Rattle.tsa_rules.specs.Cases.{entry_in}
use Rattle.tsa_rules.specs.declared.status.Status.{Status}
use Rattle.tsa_rules_table.specs.Rows.{rows_in}
use Rattle.tsa_rules_view.specs.Views.{case_in, lock_in}
use Rattle.tsa_rules_view.specs.declared.content.RuleView.{RuleView}
use Rattle.tsa_flow_function.specs.declared.table.LaneTable.{LaneTable}
use Rattle.tsa_flow_function.specs.IdlePaths.{IsIdle, shared_with}

-- the path of a lane
abbrev pub cap_of : List ℕ → (lane : ℕ) → ℕ
cap_of caps lane = slice_index_or caps lane 0

-- the lanes that points claim are in order, and none is missing
pub record AreClaimed (view : RuleView) (caps : List ℕ) (lists : List (List ℕ)) : Type 0 where
  pub rising : (p : ℕ) → AreRising (slice_index_or lists p [])
  pub all : (lane p : ℕ) → p < rows_in view.notes.marks → lane < length caps → is_some (case_in view p (cap_of caps lane)).mark.claim ≡ true → list_any (nat_eq lane) (slice_index_or lists p []) ≡ true

-- a path goes with that of its lane: it is the same, or neither is claimed or tried
pub data GoesWith (view : RuleView) (number cap : ℕ) : Type 0 where
  same : number ≡ cap → GoesWith view number cap
  alike : entry_in (lock_in view number) ≡ entry_in (lock_in view cap) → IsIdle view (λ p. case_in view p number) → IsIdle view (λ p. case_in view p cap) → GoesWith view number cap

pub record IsAssigned (view : RuleView) (caps numbers : List ℕ) (number : ℕ) : Type 0 where
  pub lane : ℕ
  pub is_there : slice_get numbers number ≡ Some lane
  pub cap : ℕ
  pub has : slice_get caps lane ≡ Some cap
  pub goes : GoesWith view number cap

pub record AreAssigned (view : RuleView) (caps numbers : List ℕ) : Type 0 where
  pub there : All (λ cap. cap < length view.numbers) caps
  pub each : (number : ℕ) → number < length view.numbers → IsAssigned view caps numbers number

-- a path without points that claim or try it is idle
abbrev pub AreIdle : RuleView → (claims : List (List ℕ)) → Type 0
AreIdle view claims = (number : ℕ) → number < length view.numbers → slice_index_or claims number [] ≡ [] → IsIdle view (λ p. case_in view p number)

-- A lane is found for a path: one that is known for its status at the entry, where nothing claims or tries it, or a new one.
pub data IsFound (cap : ℕ) (claims : List ℕ) (entry : Status) (lane : ℕ) (old new : LaneTable) : Type 0 where
  known : claims ≡ [] → Contains old.idle.items (record { entry = entry; lane = lane }) → new ≡ old → IsFound cap claims entry lane old new
  fresh : lane ≡ length old.caps.items → new.caps.items ≡ old.caps.items ++ cap ∷ [] → new.idle.items ≡ shared_with old.idle.items claims (record { entry = entry; lane = lane })
      → IsFound cap claims entry lane old new

-- and the path has it
pub record IsAdded (cap : ℕ) (claims : List ℕ) (entry : Status) (old new : LaneTable) : Type 0 where
  pub lane : ℕ
  pub mid : LaneTable
  pub found : IsFound cap claims entry lane old mid
  pub caps : new.caps.items ≡ mid.caps.items
  pub idle : new.idle.items ≡ mid.idle.items
  pub numbers : new.numbers.items ≡ old.numbers.items ++ lane ∷ []
