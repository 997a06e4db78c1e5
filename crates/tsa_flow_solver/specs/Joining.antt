-- What is worked out of a body is what walks bring to the first points of its blocks, and whether edges agree there.
use Rattle.std.specs.Prelude.{ℕ, ◌≡◌, ◌↔◌, Bool, true, false, List, Some, slice_get}
use Rattle.tsa_graph.specs.declared.sequence.Block.{Block}
use Rattle.tsa_graph.specs.declared.sequence.Blocks.{Blocks}
use Rattle.tsa_graph.specs.Rows.{place, point_in}
use Rattle.tsa_rules.specs.Sets.{Has}
use Rattle.tsa_rules.specs.declared.status.Status.{Status}
use Rattle.tsa_rules.specs.Walks.{Agree, Course, ReachAt}
use Rattle.tsa_flow_solver.specs.Disagreeing.{Disagree}
use Rattle.tsa_rules.specs.declared.statuses.Statuses.{Statuses}
use Rattle.tsa_flow_solver.specs.Rows.{flag_at, set_at}

-- a block of the body: its first point stands at its beginning
pub record IsInPlace (blocks : Blocks) (c : ℕ) (b : Block) : Type 0 where
  pub is_there : slice_get blocks.blocks.items c ≡ Some b
  pub stands : slice_get blocks.places.items (point_in b 0) ≡ Some (place c 0)

-- in one lane, by the sets of blocks and their flags
pub record AreJoined (k : Course) (blocks : Blocks) (rows : List Statuses) (flags : List Bool) : Type 0 where
  pub sets : (c : ℕ) (b : Block) → IsInPlace blocks c b → (s : Status) → Has (set_at rows c) s ↔ ReachAt k (point_in b 0) s
  pub agrees : (c : ℕ) (b : Block) → IsInPlace blocks c b → (flag_at flags c ≡ true) ↔ Agree k (point_in b 0)
  pub disagrees : (c : ℕ) (b : Block) → IsInPlace blocks c b → flag_at flags c ≡ false → Disagree k (point_in b 0)
