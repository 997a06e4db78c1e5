-- Walks of a body for one path, by what its points are to the rules for the path; and what its statuses become along a block.
use Rattle.std.specs.Prelude.{ℕ, zero, suc, ◌≡◌, List}
use Rattle.tsa_core.specs.Control.{Edge, Outcome}
use Rattle.tsa_graph.specs.declared.sequence.Block.{Block}
use Rattle.tsa_graph.specs.Rows.{last_in, outcome_in, point_in}
use Rattle.tsa_rules.specs.Cases.{effect_in}
use Rattle.tsa_rules.specs.declared.case.Case.{Case}
use Rattle.tsa_rules.specs.declared.statuses.Statuses.{Statuses}
use Rattle.tsa_rules.specs.Sets.{Has}
use Rattle.tsa_rules.specs.declared.status.Status.{Status}
use Rattle.tsa_rules.specs.Walks.{Course}

-- the course of a body with these edges, with a status at the entry
abbrev pub course_by : List Edge → Status → (ℕ → Case) → Course
course_by es s cases = record {
  edges = es;
  entry = s;
  effect = λ p o t. effect_in (cases p) o t;
}

-- what the statuses of a set become on the way from the first point of a block to a further one
abbrev pub Carried : (ℕ → Case) → Block → Statuses → (index : ℕ) → Status → Type 0
Carried cases b set zero t = Has set t
Carried cases b set (suc i) t = (s : Status) × (Carried cases b set i s × (effect_in (cases (point_in b i)) (outcome_in b i) s ≡ t))

-- what the last point makes of a status there
abbrev pub leaving : (ℕ → Case) → Block → Outcome → Status → Status
leaving cases b o s = effect_in (cases (point_in b (last_in b))) o s

-- what they become where the block is left by an outcome
abbrev pub Leaves : (ℕ → Case) → Block → Statuses → Outcome → Status → Type 0
Leaves cases b set o t = (s : Status) × (Carried cases b set (last_in b) s × (leaving cases b o s ≡ t))
