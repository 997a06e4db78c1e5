use Rattle.std.proofs.Common.{◌≡◌, ◌+◌, ◌*◌, ◌≤◌, ◌++◌, drop, map}
use Rattle.tsa_tree.specs.statements.Shapes.{stmt_shapes}
use Rattle.tsa_tree.proofs.statements.Trees.{tall, talls, shape_of}
use Rattle.tsa_core_points.specs.Steps.{step_shape, steps_of_all}
use Rattle.tsa_core_points.proofs.steps.+stepping.Given as goal

abbrev pub decreases-put_steps : goal.decreases-put_steps
decreases-put_steps l = 3 * tall (shape_of l.stmt.now)

abbrev pub decreases-put_nested : goal.decreases-put_nested
decreases-put_nested l = 3 * tall (shape_of l.stmt.now) + 1

abbrev pub decreases-put_block : goal.decreases-put_block
decreases-put_block l = 3 * talls (stmt_shapes l.items.now) + 2

abbrev pub decreases-put_all : goal.decreases-put_all
decreases-put_all l = 3 * talls (stmt_shapes l.items.now) + 1

abbrev pub invariant-put_all-each : goal.invariant-put_all-each
invariant-put_all-each l = record {
  steps : map step_shape l.steps.items ++ steps_of_all (stmt_shapes (drop l.stmt-index l.items)) ≡ map step_shape l.fn.steps.items ++ steps_of_all (stmt_shapes l.items);
  low : talls (stmt_shapes (drop l.stmt-index l.items)) ≤ talls (stmt_shapes l.items);
}
