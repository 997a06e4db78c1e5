use Rattle.std.proofs.Common.{◌≡◌, ◌≤◌, length, ◌-◌}
use Rattle.tsa_tree.specs.declarations.Shapes.{enumerator_shapes}
use Rattle.tsa_tree.specs.Reads.{read}
use Rattle.tsa_tree.specs.Rows.{some_constants, constants}
use Rattle.tsa_expr.specs.Source.{input, named}
use Rattle.tsa_decl_declarators.specs.Outcomes.{after}
use Rattle.tsa_decl.proofs.constants.constants.Given as goal

abbrev pub invariant-constants : goal.invariant-constants
invariant-constants l =
    (l.at ≤ l.next)
    × (after (enumerator_shapes l.fn.list.items) (read (input l.reader) some_constants (constants (named l.reader)) l.at)
    ≡ after (enumerator_shapes l.list.items) (read (input l.reader) some_constants (constants (named l.reader)) l.next))

abbrev pub decreases-constants : goal.decreases-constants
decreases-constants l = length l.reader.tokens.now - l.next
