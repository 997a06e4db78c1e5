use Rattle.std.proofs.Common.{subst, sym}
use Rattle.tsa_graph.specs.Rows.{AreBlocksOf}
use Rattle.tsa_rules.specs.Points.{edges_of}
use Rattle.tsa_flow_function.proofs.function.FunctionFlow.new.Goals as goal

pub returns : goal.returns
returns c u f paths view blocks = record {
  view = view;
  blocks = blocks;
  flows = c.in_ok-paths.ensures.flows (edges_of f) (subst (λ n. AreBlocksOf n (edges_of f) c.args.blocks) (sym view.rows) blocks);
}
