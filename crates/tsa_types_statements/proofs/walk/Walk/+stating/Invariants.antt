use Rattle.std.proofs.Common.{◌≡◌, ◌+◌, ◌*◌, ◌≤◌, drop}
use Rattle.tsa_tree.specs.statements.Shapes.{stmt_shapes}
use Rattle.tsa_tree.specs.types.Premises.{first}
use Rattle.tsa_tree.specs.types.Statements.{statements_premises, behind_all}
use Rattle.tsa_types_row.specs.BodyRows.{row_in_statements}
use Rattle.tsa_types_expressions.proofs.RowLaws.{noted}
use Rattle.tsa_tree.proofs.statements.Trees.{tall, talls, shape_of}
use Rattle.tsa_types_statements.proofs.walk.Walk.+stating.Given as goal

abbrev pub decreases-statement : goal.decreases-statement
decreases-statement l = 4 * tall (shape_of l.stmt.now)

abbrev pub decreases-nested : goal.decreases-nested
decreases-nested l = 4 * tall (shape_of l.stmt.now) + 1

abbrev pub decreases-after : goal.decreases-after
decreases-after l = 4 * tall (shape_of l.body.now) + 2

abbrev pub decreases-do_loop : goal.decreases-do_loop
decreases-do_loop l = 4 * tall (shape_of l.body.now) + 3

abbrev pub decreases-for_loop : goal.decreases-for_loop
decreases-for_loop l = 4 * tall (shape_of l.body.now) + 3

abbrev pub decreases-switch : goal.decreases-switch
decreases-switch l = 4 * tall (shape_of l.body.now) + 3

abbrev pub decreases-block : goal.decreases-block
decreases-block l = 4 * talls (stmt_shapes l.items.now) + 2

abbrev pub decreases-statements : goal.decreases-statements
decreases-statements l = 4 * talls (stmt_shapes l.items.now) + 1

abbrev pub invariant-statements-each : goal.invariant-statements-each
invariant-statements-each l = record {
  judged : first (statements_premises l.around l.self.scope (stmt_shapes (drop l.stmt-index l.items))) ≡ first (statements_premises l.around l.fn.self.scope (stmt_shapes l.items));
  behind : behind_all l.self.scope (stmt_shapes (drop l.stmt-index l.items)) ≡ behind_all l.fn.self.scope (stmt_shapes l.items);
  nodes : noted l.self.row (row_in_statements l.self.scope l.around.function (stmt_shapes (drop l.stmt-index l.items)))
      ≡ noted l.fn.self.row (row_in_statements l.fn.self.scope l.around.function (stmt_shapes l.items));
  low : talls (stmt_shapes (drop l.stmt-index l.items)) ≤ talls (stmt_shapes l.items);
}
