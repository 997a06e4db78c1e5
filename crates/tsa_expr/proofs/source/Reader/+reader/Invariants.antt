use Rattle.std.proofs.Common.{◌≡◌, ◌+◌, ◌≤◌, length, max, ◌-◌, ◌*◌}
use Rattle.tsa_tree.specs.expressions.Syntax.{heights}
use Rattle.tsa_tree.specs.Reads.{read, read_on, read_behind}
use Rattle.tsa_tree.specs.Rows.{some_arguments, series}
use Rattle.tsa_tree.specs.expressions.Shapes.{shape, shapes}
use Rattle.tsa_tree.specs.tokens.Signs.{sign_at}
use Rattle.tsa_expr.specs.Source.{input, named}
use Rattle.tsa_expr.specs.Readings.{after}
use Rattle.tsa_expr.proofs.source.Reader.+reader.Given as goal

abbrev pub decreases-arguments : goal.decreases-arguments
decreases-arguments l = 8 * (length l.self.tokens.now - l.at) + 5

abbrev pub decreases-series : goal.decreases-series
decreases-series l = 8 * (length l.self.tokens.now - l.at) + 4

abbrev pub decreases-expression : goal.decreases-expression
decreases-expression l = 8 * (length l.self.tokens.now - l.at) + 3

abbrev pub decreases-operand : goal.decreases-operand
decreases-operand l = 8 * (length l.self.tokens.now - l.at) + 2

abbrev pub decreases-primary : goal.decreases-primary
decreases-primary l = 8 * (length l.self.tokens.now - l.at) + 1

abbrev pub decreases-name_or_call : goal.decreases-name_or_call
decreases-name_or_call l = 8 * (length l.self.tokens.now - l.at)

abbrev pub decreases-operations : goal.decreases-operations
decreases-operations l = 8 * (length l.self.tokens.now - l.left.next)

abbrev pub decreases-accesses : goal.decreases-accesses
decreases-accesses l = 8 * (length l.self.tokens.now - l.base.next) + 1

abbrev pub decreases-element : goal.decreases-element
decreases-element l = 8 * (length l.self.tokens.now - l.base.next)

abbrev pub invariant-operations-operators : goal.invariant-operations-operators
invariant-operations-operators l =
    (l.whole.start ≡ l.fn.left.start) × (l.fn.left.next ≤ l.whole.next)
    × (l.whole.ahead ≡ sign_at (input l.self) (named l.self) l.whole.next)
    × (read_on (input l.self) (named l.self) l.depth l.tight l.fn.left.start (shape l.fn.left.tree) l.fn.left.next
    ≡ read_on (input l.self) (named l.self) l.depth l.tight l.whole.start (shape l.whole.tree) l.whole.next)

abbrev pub decreases-operations-operators : goal.decreases-operations-operators
decreases-operations-operators l = length l.self.tokens.now - l.whole.next

abbrev pub invariant-accesses-operators : goal.invariant-accesses-operators
invariant-accesses-operators l =
    (l.whole.start ≡ l.fn.base.start) × (l.fn.base.next ≤ l.whole.next)
    × (l.whole.ahead ≡ sign_at (input l.self) (named l.self) l.whole.next)
    × (read_behind (input l.self) (named l.self) l.depth l.fn.base.start (shape l.fn.base.tree) l.fn.base.next
    ≡ read_behind (input l.self) (named l.self) l.depth l.whole.start (shape l.whole.tree) l.whole.next)

abbrev pub decreases-accesses-operators : goal.decreases-accesses-operators
decreases-accesses-operators l = length l.self.tokens.now - l.whole.next

abbrev pub invariant-series-items : goal.invariant-series-items
invariant-series-items l =
    (l.at ≤ l.next) × (l.height + l.at ≤ l.next)
    × (max (heights (shapes l.fn.list.items)) l.height ≡ heights (shapes l.list.items))
    × (after (shapes l.fn.list.items) (read (input l.self) some_arguments (series (named l.self) l.depth) l.at)
    ≡ after (shapes l.list.items) (read (input l.self) some_arguments (series (named l.self) l.depth) l.next))

abbrev pub decreases-series-items : goal.decreases-series-items
decreases-series-items l = length l.self.tokens.now - l.next
