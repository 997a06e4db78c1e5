use Rattle.std.proofs.Common.{◌≡◌, ◌++◌, ◌+◌, ◌*◌, ◌≤◌, [], max, drop}
use Rattle.tsa_tree.specs.expressions.Syntax.{height, heights}
use Rattle.tsa_tree.specs.expressions.Shapes.{shape, shapes}
use Rattle.tsa_print.proofs.WrittenParts.{listed}
use Rattle.tsa_print.proofs.print.+printing.Given as goal

abbrev pub decreases-write_expr : goal.decreases-write_expr
decreases-write_expr l = 3 * height (shape l.expr.now)

abbrev pub decreases-write_call : goal.decreases-write_call
decreases-write_call l = 3 * heights (shapes l.args.now) + 2

abbrev pub decreases-write_arguments : goal.decreases-write_arguments
decreases-write_arguments l = 3 * heights (shapes l.args.now) + 1

abbrev pub decreases-write_unary : goal.decreases-write_unary
decreases-write_unary l = 3 * height (shape l.inner.now) + 1

abbrev pub decreases-write_binary : goal.decreases-write_binary
decreases-write_binary l = 3 * max (height (shape l.left.now)) (height (shape l.right.now)) + 1

abbrev pub decreases-write_field : goal.decreases-write_field
decreases-write_field l = 3 * height (shape l.base.now) + 1

abbrev pub decreases-write_index : goal.decreases-write_index
decreases-write_index l = 3 * max (height (shape l.array.now)) (height (shape l.at.now)) + 1

-- what is written, and the further arguments after the separator, is the text of all of them
abbrev pub invariant-write_arguments-each : goal.invariant-write_arguments-each
invariant-write_arguments-each l =
    record {
      text : l.out.items ++ listed l.separator (shapes (drop l.arg-index l.args)) ≡ l.fn.out.items ++ listed [] (shapes l.args);
      low : heights (shapes (drop l.arg-index l.args)) ≤ heights (shapes l.args);
    }
