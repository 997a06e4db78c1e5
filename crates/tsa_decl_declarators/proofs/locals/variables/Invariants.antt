use Rattle.std.proofs.Common.{◌≡◌, ◌≤◌, ◌+◌, length, ◌-◌}
use Rattle.tsa_tree.specs.declarations.Shapes.{decl_shapes}
use Rattle.tsa_expr.specs.Source.{input, named}
use Rattle.tsa_decl_declarators.specs.Outcomes.{after, variables_at}
use Rattle.tsa_decl_declarators.specs.Readings.{row_type}
use Rattle.tsa_decl_declarators.proofs.locals.variables.Given as goal

abbrev pub invariant-variables : goal.invariant-variables
invariant-variables l =
    (l.specified.next ≤ l.next) × (length l.list.items + l.specified.next ≤ length l.fn.list.items + l.next)
    × (after (decl_shapes l.fn.list.items) (variables_at (input l.reader) (named l.reader) l.single l.depth (row_type l.specified) l.specified.next)
    ≡ after (decl_shapes l.list.items) (variables_at (input l.reader) (named l.reader) l.single l.depth (row_type l.specified) l.next))

abbrev pub decreases-variables : goal.decreases-variables
decreases-variables l = length l.reader.tokens.now - l.next
