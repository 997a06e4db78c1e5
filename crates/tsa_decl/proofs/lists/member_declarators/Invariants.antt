use Rattle.std.proofs.Common.{◌≡◌, ◌≤◌, length, ◌-◌}
use Rattle.tsa_tree.specs.declarations.Spelling.{a_member}
use Rattle.tsa_tree.specs.declarations.Shapes.{decl_shapes}
use Rattle.tsa_tree.specs.Reads.{read}
use Rattle.tsa_tree.specs.Rows.{some_declarations, declarators}
use Rattle.tsa_expr.specs.Source.{input, named}
use Rattle.tsa_decl_declarators.specs.Outcomes.{after}
use Rattle.tsa_decl_declarators.specs.Readings.{row_type}
use Rattle.tsa_decl.proofs.lists.member_declarators.Given as goal

abbrev pub invariant-declarators : goal.invariant-declarators
invariant-declarators l =
    (l.specified.next ≤ l.next)
    × (after (decl_shapes l.fn.list.items) (read (input l.reader) some_declarations (declarators (named l.reader) a_member 1 (row_type l.specified)) l.specified.next)
    ≡ after (decl_shapes l.list.items) (read (input l.reader) some_declarations (declarators (named l.reader) a_member 1 (row_type l.specified)) l.next))

abbrev pub decreases-declarators : goal.decreases-declarators
decreases-declarators l = length l.reader.tokens.now - l.next
