use Rattle.std.proofs.Common.{◌≡◌, ◌+◌, ◌≤◌, length, ◌-◌, ◌*◌}
use Rattle.tsa_tree.specs.Reads.{read}
use Rattle.tsa_tree.specs.Rows.{some_statements, statements}
use Rattle.tsa_tree.specs.statements.Shapes.{stmt_shapes}
use Rattle.tsa_expr.specs.Source.{input, named}
use Rattle.tsa_unit_simple.specs.Outcomes.{statements_after}
use Rattle.tsa_unit_simple.specs.PointNumbers.{ArePointed}
use Rattle.tsa_unit_statements.proofs.reader.+statements.Given as goal

abbrev pub decreases-statement : goal.decreases-statement
decreases-statement l = 6 * (length l.source.reader.tokens.now - l.at) + 3

abbrev pub decreases-keyword_statement : goal.decreases-keyword_statement
decreases-keyword_statement l = 6 * (length l.source.reader.tokens.now - l.at) + 2

abbrev pub decreases-name_statement : goal.decreases-name_statement
decreases-name_statement l = 6 * (length l.source.reader.tokens.now - l.at) + 1

abbrev pub decreases-headed_statement : goal.decreases-headed_statement
decreases-headed_statement l = 6 * (length l.source.reader.tokens.now - l.at) + 1

abbrev pub decreases-body : goal.decreases-body
decreases-body l = 6 * (length l.source.reader.tokens.now - l.at) + 4

abbrev pub decreases-ending : goal.decreases-ending
decreases-ending l = 6 * (length l.source.reader.tokens.now - l.headed.next) + 5

abbrev pub decreases-if_statement : goal.decreases-if_statement
decreases-if_statement l = 6 * (length l.source.reader.tokens.now - l.start) + 1

abbrev pub decreases-arms : goal.decreases-arms
decreases-arms l = 6 * (length l.source.reader.tokens.now - l.marked.next) + 5

abbrev pub decreases-do_loop : goal.decreases-do_loop
decreases-do_loop l = 6 * (length l.source.reader.tokens.now - l.start)

abbrev pub decreases-block : goal.decreases-block
decreases-block l = 6 * (length l.source.reader.tokens.now - l.start)

abbrev pub decreases-statements : goal.decreases-statements
decreases-statements l = 6 * (length l.source.reader.tokens.now - l.at) + 4

abbrev pub invariant-statements-statements : goal.invariant-statements-statements
invariant-statements-statements l = record {
  inside : l.at ≤ l.next;
  gives : read (input l.source.reader) some_statements (statements (named l.source.reader) l.depth) l.at ≡ statements_after (stmt_shapes l.list.items) (read (input l.source.reader) some_statements (statements (named l.source.reader) l.depth) l.next);
  pointed : ArePointed l.fn.points.items l.points.items l.list.items;
}

abbrev pub decreases-statements-statements : goal.decreases-statements-statements
decreases-statements-statements l = length l.source.reader.tokens.now - l.next
