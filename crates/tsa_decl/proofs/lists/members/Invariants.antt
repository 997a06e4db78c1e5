use Rattle.std.proofs.Common.{◌≡◌, ◌≤◌, length, ◌-◌}
use Rattle.tsa_tree.specs.declarations.Shapes.{decl_shapes}
use Rattle.tsa_tree.specs.Reads.{read}
use Rattle.tsa_tree.specs.Rows.{some_declarations, members}
use Rattle.tsa_expr.specs.Source.{input, named}
use Rattle.tsa_decl_declarators.specs.Outcomes.{after}
use Rattle.tsa_decl.proofs.lists.members.Given as goal

abbrev pub invariant-members : goal.invariant-members
invariant-members l =
    (l.at ≤ l.next)
    × (after (decl_shapes l.fn.list.items) (read (input l.reader) some_declarations (members (named l.reader) 1) l.at)
    ≡ after (decl_shapes l.list.items) (read (input l.reader) some_declarations (members (named l.reader) 1) l.next))

abbrev pub decreases-members : goal.decreases-members
decreases-members l = length l.reader.tokens.now - l.next
