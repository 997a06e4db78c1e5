-- What points make of a set of statuses in one lane: by an outcome, from a place of a block to the next one, along a block, and where it is
-- left.
use Rattle.std.specs.Prelude.{ℕ, ◌<◌, ◌≤◌, ◌≡◌, ◌↔◌, ◌⊎◌, List, Contains}
use Rattle.tsa_graph_edges.specs.declared.link.Outcome as code
use Rattle.tsa_graph_edges.specs.Links.{outcome_of}
use Rattle.tsa_graph.specs.declared.sequence.Block.{Block}
use Rattle.tsa_graph.specs.Rows.{last_in, outcome_in, point_in}
use Rattle.tsa_rules.specs.Cases.{effect_in}
use Rattle.tsa_rules.specs.declared.case.Asked.{Asked}
use Rattle.tsa_rules.specs.declared.case.Asked.TheVariants as asked
use Rattle.tsa_rules.specs.declared.case.Case.{Case}
use Rattle.tsa_rules.specs.declared.case.Role.{Role}
use Rattle.tsa_rules.specs.declared.case.Role.TheVariants as role
use Rattle.tsa_rules.specs.declared.statuses.Statuses.{Statuses}
use Rattle.tsa_rules.specs.Sets.{Has, IsImage}
use Rattle.tsa_rules.specs.declared.status.Status.{Status}
use Rattle.tsa_rules.specs.declared.status.Status.TheVariants.{Pending}
use Rattle.tsa_flow_solver.specs.Courses.{Carried, leaving}

abbrev pub Passes : Case → code.Outcome → (before after : Statuses) → Type 0
Passes x o before after = (t : Status) → Has after t ↔ IsImage (effect_in x (outcome_of o)) before t

-- a test looks at a try variable whose answer may stand unseen
abbrev pub IsUnseen : Asked → Statuses → Type 0
IsUnseen asked.Call set = ⊥
IsUnseen (asked.Variable v) set = Has set (Pending v)

abbrev pub IsPending : Role → Statuses → Type 0
IsPending (role.Tests t) set = IsUnseen t.asked set
IsPending _ set = ⊥

-- What a point makes of a lane's set where some lanes are claimed: first where it tests a variable whose answer the lane holds unseen, and
-- isn't claimed.
pub data IsPassed (x : Case) (o : code.Outcome) (claims : List ℕ) (lane : ℕ) (before after : Statuses) : Type 0 where
  passes : (Contains claims lane → ⊥) → Passes x o before after → IsPassed x o claims lane before after
  stays : (Contains claims lane) ⊎ (IsPending x.role before → ⊥) → after ≡ before → IsPassed x o claims lane before after

-- and then where it is
pub data IsClaimPassed (x : Case) (o : code.Outcome) (claims : List ℕ) (lane : ℕ) (before after : Statuses) : Type 0 where
  claimed : Contains claims lane → Passes x o before after → IsClaimPassed x o claims lane before after
  unclaimed : (Contains claims lane → ⊥) → after ≡ before → IsClaimPassed x o claims lane before after

-- the points of a block are of a body of so many
abbrev pub ArePoints : (n : ℕ) → Block → Type 0
ArePoints n b = (i : ℕ) → i ≤ last_in b → point_in b i < n

abbrev pub IsStep : (ℕ → Case) → Block → (index : ℕ) → (before after : Statuses) → Type 0
IsStep cases b i before after = (t : Status) → Has after t ↔ IsImage (effect_in (cases (point_in b i)) (outcome_in b i)) before t

abbrev pub IsCarried : (ℕ → Case) → Block → (from : Statuses) → (index : ℕ) → (set : Statuses) → Type 0
IsCarried cases b from i set = (s : Status) → Has set s ↔ Carried cases b from i s

abbrev pub IsLeft : (ℕ → Case) → Block → code.Outcome → (last out : Statuses) → Type 0
IsLeft cases b o last out = (t : Status) → Has out t ↔ IsImage (leaving cases b (outcome_of o)) last t
