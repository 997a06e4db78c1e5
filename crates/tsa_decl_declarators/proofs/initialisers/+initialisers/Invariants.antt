use Rattle.std.proofs.Common.{◌≡◌, ◌+◌, ◌≤◌, length, ◌-◌, ◌*◌}
use Rattle.tsa_tree.specs.declarations.Shapes.{init_shapes}
use Rattle.tsa_expr.specs.Source.{input, named}
use Rattle.tsa_decl_declarators.specs.Outcomes.{values_after, braced_at}
use Rattle.tsa_decl_declarators.proofs.initialisers.+initialisers.Given as goal

abbrev pub decreases-braced_list : goal.decreases-braced_list
decreases-braced_list l = 2 * (length l.reader.tokens.now - l.at) + 1

abbrev pub decreases-initialiser : goal.decreases-initialiser
decreases-initialiser l = 2 * (length l.reader.tokens.now - l.at)

abbrev pub invariant-braced_list-values : goal.invariant-braced_list-values
invariant-braced_list-values l =
    (l.at ≤ l.next)
    × (values_after (init_shapes l.fn.list.items) (braced_at (input l.reader) (named l.reader) l.depth l.at)
    ≡ values_after (init_shapes l.list.items) (braced_at (input l.reader) (named l.reader) l.depth l.next))

abbrev pub decreases-braced_list-values : goal.decreases-braced_list-values
decreases-braced_list-values l = length l.reader.tokens.now - l.next
