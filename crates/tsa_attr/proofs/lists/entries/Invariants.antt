use Rattle.std.proofs.Common.{◌≡◌, ◌≤◌, length, ◌-◌}
use Rattle.tsa_tree.specs.attributes.Syntax.{attr_shapes}
use Rattle.tsa_tree.specs.Reads.{read}
use Rattle.tsa_tree.specs.Rows.{some_attributes, entries}
use Rattle.tsa_expr.specs.Source.{input, named}
use Rattle.tsa_attr.specs.Outcomes.{after}
use Rattle.tsa_attr.proofs.lists.entries.Given as goal

abbrev pub invariant-entries : goal.invariant-entries
invariant-entries l =
    (l.at ≤ l.next)
    × (after (attr_shapes l.fn.list.items) (read (input l.reader) some_attributes (entries (named l.reader) l.depth) l.at)
    ≡ after (attr_shapes l.list.items) (read (input l.reader) some_attributes (entries (named l.reader) l.depth) l.next))

abbrev pub decreases-entries : goal.decreases-entries
decreases-entries l = length l.reader.tokens.now - l.next
