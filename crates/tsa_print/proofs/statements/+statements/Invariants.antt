use Rattle.std.proofs.Common.{◌≡◌, ◌+◌, ◌*◌, ◌≤◌, max, drop}
use Rattle.tsa_tree.specs.statements.Shapes.{stmt_shapes}
use Rattle.tsa_print.specs.UnitPieces.{statements_pieces}
use Rattle.tsa_print.specs.Sheets.{page_of, put}
use Rattle.tsa_tree.proofs.statements.Trees.{tall, talls, shape_of, tall_given}
use Rattle.tsa_print.proofs.statements.+statements.Given as goal

abbrev pub decreases-put_statement : goal.decreases-put_statement
decreases-put_statement l = 4 * tall (shape_of l.stmt.now)

abbrev pub decreases-put_under_test : goal.decreases-put_under_test
decreases-put_under_test l = 4 * tall (shape_of l.body.now) + 1

abbrev pub decreases-put_under_label : goal.decreases-put_under_label
decreases-put_under_label l = 4 * tall (shape_of l.body.now) + 1

abbrev pub decreases-put_under_case : goal.decreases-put_under_case
decreases-put_under_case l = 4 * tall (shape_of l.body.now) + 1

abbrev pub decreases-put_do : goal.decreases-put_do
decreases-put_do l = 4 * tall (shape_of l.body.now) + 1

abbrev pub decreases-put_if : goal.decreases-put_if
decreases-put_if l = 4 * max (tall (shape_of l.arm.now)) (tall_given l.other) + 2

abbrev pub decreases-put_block : goal.decreases-put_block
decreases-put_block l = 4 * talls (stmt_shapes l.items.now) + 2

abbrev pub decreases-put_statements : goal.decreases-put_statements
decreases-put_statements l = 4 * talls (stmt_shapes l.items.now) + 1

abbrev pub invariant-put_statements-each : goal.invariant-put_statements-each
invariant-put_statements-each l =
    record {
      page : put (page_of l.sheet) (statements_pieces (stmt_shapes (drop l.stmt-index l.items))) ≡ put (page_of l.fn.sheet) (statements_pieces (stmt_shapes l.items));
      low : talls (stmt_shapes (drop l.stmt-index l.items)) ≤ talls (stmt_shapes l.items);
    }
