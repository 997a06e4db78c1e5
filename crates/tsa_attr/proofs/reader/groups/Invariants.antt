use Rattle.std.proofs.Common.{◌≡◌, ◌≤◌, length, max, ◌-◌}
use Rattle.tsa_tree.specs.attributes.Syntax.{attr_shapes}
use Rattle.tsa_tree.specs.attributes.Answers.{read_any}
use Rattle.tsa_expr.specs.Source.{input, named}
use Rattle.tsa_attr.specs.Outcomes.{after}
use Rattle.tsa_attr.proofs.reader.groups.Given as goal

abbrev pub invariant-groups : goal.invariant-groups
invariant-groups l =
    (l.at ≤ l.next) × (l.next ≤ max l.at (length l.reader.tokens.now))
    × (after (attr_shapes l.fn.list.items) (read_any (input l.reader) (named l.reader) l.depth l.at)
    ≡ after (attr_shapes l.list.items) (read_any (input l.reader) (named l.reader) l.depth l.next))

abbrev pub decreases-groups : goal.decreases-groups
decreases-groups l = length l.reader.tokens.now - l.next
