use Rattle.std.proofs.Common.{◌+◌, ◌*◌, ◌≤◌, max, drop, length}
use Rattle.tsa_tree.specs.statements.Shapes.{stmt_shapes}
use Rattle.tsa_tree.proofs.statements.Trees.{tall, talls, shape_of}
use Rattle.tsa_graph_edges.specs.Spots.{ArePut}
use Rattle.tsa_graph_edges.proofs.walk.Spot.+putting.Given as goal

abbrev pub decreases-put : goal.decreases-put
decreases-put l = 3 * tall (shape_of l.stmt.now)

abbrev pub decreases-put_if : goal.decreases-put_if
decreases-put_if l = 3 * tall (shape_of l.arm.now) + 1

abbrev pub decreases-put_both : goal.decreases-put_both
decreases-put_both l = 3 * max (tall (shape_of l.arms.0.now)) (tall (shape_of l.arms.1.now)) + 1

abbrev pub decreases-put_while : goal.decreases-put_while
decreases-put_while l = 3 * tall (shape_of l.body.now) + 1

abbrev pub decreases-put_do : goal.decreases-put_do
decreases-put_do l = 3 * tall (shape_of l.body.now) + 1

abbrev pub decreases-put_for : goal.decreases-put_for
decreases-put_for l = 3 * tall (shape_of l.body.now) + 1

abbrev pub decreases-put_switch : goal.decreases-put_switch
decreases-put_switch l = 3 * tall (shape_of l.body.now) + 1

abbrev pub decreases-put_all : goal.decreases-put_all
decreases-put_all l = 3 * talls (stmt_shapes l.items.now) + 1

abbrev pub invariant-put_all-each : goal.invariant-put_all-each
invariant-put_all-each l = record {
  within : l.left ≤ length l.items;
  put : ArePut l.fn.self (stmt_shapes (drop l.left l.items)) l.start l.fn.ahead l.ahead;
}

abbrev pub decreases-put_all-each : goal.decreases-put_all-each
decreases-put_all-each l = l.left
