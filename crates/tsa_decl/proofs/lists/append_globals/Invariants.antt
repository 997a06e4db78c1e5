use Rattle.std.proofs.Common.{◌≡◌, ◌≤◌, length, take, ◌-◌}
use Rattle.tsa_tree.specs.units.Shapes.{item_shapes, HaveTheirPoints}
use Rattle.tsa_expr.specs.Source.{input, named}
use Rattle.tsa_decl_declarators.specs.Outcomes.{after}
use Rattle.tsa_decl.specs.Outcomes.{globals_at}
use Rattle.tsa_decl_declarators.specs.Readings.{row_type, row_declarator}
use Rattle.tsa_decl.proofs.lists.append_globals.Given as goal

abbrev pub invariant-globals : goal.invariant-globals
invariant-globals l =
    (l.first.next ≤ l.of.next) × (l.of.next ≤ length l.reader.tokens.now)
    × (after (item_shapes l.fn.list.items) (globals_at (input l.reader) (named l.reader) (row_type l.specified) (row_declarator l.first) l.first.next)
    ≡ after (item_shapes l.list.items) (globals_at (input l.reader) (named l.reader) (row_type l.specified) (row_declarator l.of) l.of.next))
    × (HaveTheirPoints l.fn.list.items → HaveTheirPoints l.list.items)
    × (take (length l.fn.list.items) l.list.items ≡ l.fn.list.items)

abbrev pub decreases-globals : goal.decreases-globals
decreases-globals l = length l.reader.tokens.now - l.of.next
