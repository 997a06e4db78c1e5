use Rattle.std.proofs.Common.{◌≡◌, ◌<◌, ℕ, All, length, Some, slice_get, slice_index_or, []}
use Rattle.tsa_graph.specs.declared.sequence.Block.{Block}
use Rattle.tsa_flow_solver.specs.Passing.{ArePoints}
use Rattle.tsa_flow_solver.specs.Rows.{row_at, set_at}
use Rattle.tsa_flow_solver.specs.Stages.{AreStages}
use Rattle.tsa_flow_solver.proofs.stages.stages_of.Given as goal

-- the first blocks have their stages
abbrev pub invariant-each : goal.invariant-each
invariant-each g l = record {
  long : length l.stages ≡ l.number;
  staged : (lane : ℕ) → All (ArePoints (g.L.Lanes.points l.lanes)) l.blocks.blocks.items → lane < g.L.Lanes.count l.lanes → (c : ℕ) (b : Block) → c < l.number → slice_get l.blocks.blocks.items c ≡ Some b
      → AreStages (g.L.Lanes.cases l.lanes lane) b (set_at (row_at l.rows c) lane) lane (slice_index_or l.stages c []);
}
