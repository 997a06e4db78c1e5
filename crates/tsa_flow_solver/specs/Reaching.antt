-- What is worked out of a body in lanes is what walks bring to its points.
use Rattle.std.specs.Prelude.{ℕ, ◌<◌, List}
use Rattle.tsa_core.specs.Control.{Edge}
use Rattle.tsa_graph.specs.declared.sequence.Blocks.{Blocks}
use Rattle.tsa_rules.specs.declared.case.Case.{Case}
use Rattle.tsa_rules.specs.declared.status.Status.{Status}
use Rattle.tsa_flow_solver.specs.declared.sets.Reached.{Reached}
use Rattle.tsa_flow_solver.specs.Courses.{course_by}
use Rattle.tsa_flow_solver.specs.Joining.{AreJoined}
use Rattle.tsa_flow_solver.specs.Rows.{flags_of, lane_of}
use Rattle.tsa_flow_solver.specs.Stages.{AreStaged}

-- by the edges of the body, and for each of so many lanes by the status at the entry and by what each point is to the rules
pub record AreReached (es : List Edge) (count : ℕ) (enters : ℕ → Status) (cases : ℕ → ℕ → Case) (blocks : Blocks) (reached : Reached) : Type 0 where
  pub joins : (lane : ℕ) → lane < count
      → AreJoined (course_by es (enters lane) (cases lane)) blocks (lane_of reached.joins.rows.items lane) (flags_of reached.joins.agreeing.items lane)
  pub stages : (lane : ℕ) → lane < count → AreStaged (cases lane) blocks.blocks.items reached.joins.rows.items lane reached.stages
