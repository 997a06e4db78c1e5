-- What walks bring to the points of a function, path by path.
use Rattle.std.specs.Prelude.{ℕ, List, length}
use Rattle.tsa_place_model.specs.Ways.{Way}
use Rattle.tsa_core.specs.Control.{Edge}
use Rattle.tsa_core.specs.Programs.{Function, Program}
use Rattle.tsa_graph.specs.declared.sequence.Blocks.{Blocks}
use Rattle.tsa_graph.specs.Rows.{AreBlocksOf}
use Rattle.tsa_rules.specs.Cases.{entry_in}
use Rattle.tsa_rules.specs.Points.{edges_of, points_of}
use Rattle.tsa_flow_solver.specs.Reaching.{AreReached}
use Rattle.tsa_flow_solver.specs.declared.sets.Reached.{Reached}
use Rattle.tsa_rules_view.specs.declared.content.RuleView.{RuleView}
use Rattle.tsa_rules_view.specs.Views.{case_in, lock_in, IsViewOf}
use Rattle.tsa_flow_function.specs.declared.function.FunctionFlow.{FunctionFlow}
use Rattle.tsa_flow_function.specs.declared.paths.PathFlows.{PathFlows}
use Rattle.tsa_flow_function.specs.Lanes.{AreAssigned, cap_of}

-- what is to be reached in the lanes of some paths of a view
abbrev pub AreReachedIn : List Edge → RuleView → Blocks → (caps : List ℕ) → Reached → Type 0
AreReachedIn es view blocks caps reached =
    AreReached es (length caps) (λ lane. entry_in (lock_in view (cap_of caps lane))) (λ lane p. case_in view p (cap_of caps lane)) blocks reached

-- what walks bring is worked out in lanes, and each path has one
pub record ArePathFlows (es : List Edge) (view : RuleView) (blocks : Blocks) (w : PathFlows) : Type 0 where
  pub reached : AreReachedIn es view blocks w.caps.items w.reached
  pub assigned : AreAssigned view w.caps.items w.numbers.items

-- of a function of a program with some paths
pub record IsFlowOf (u : Program) (f : Function) (paths : List Way) (w : FunctionFlow) : Type 0 where
  pub view : IsViewOf u f paths w.view
  pub blocks : AreBlocksOf (length (points_of f)) (edges_of f) w.blocks
  pub flows : ArePathFlows (edges_of f) w.view w.blocks w.paths
