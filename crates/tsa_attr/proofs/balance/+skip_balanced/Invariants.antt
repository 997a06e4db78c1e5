use Rattle.std.proofs.Common.{◌≡◌, ◌≤◌, length, ◌-◌}
use Rattle.tsa_tree.specs.Reads.{read}
use Rattle.tsa_tree.specs.Rows.{a_skip, balanced}
use Rattle.tsa_expr.specs.Source.{input, named}
use Rattle.tsa_attr.specs.Readings.{row_closer}
use Rattle.tsa_attr.proofs.balance.+skip_balanced.Given as goal

abbrev pub decreases-skip_balanced : goal.decreases-skip_balanced
decreases-skip_balanced l = length l.reader.tokens.now - l.at

abbrev pub invariant-tokens : goal.invariant-tokens
invariant-tokens l =
    (l.at ≤ l.next)
    × (read (input l.reader) a_skip (balanced (named l.reader) l.depth (row_closer l.closer)) l.at
    ≡ read (input l.reader) a_skip (balanced (named l.reader) l.depth (row_closer l.closer)) l.next)

abbrev pub decreases-tokens : goal.decreases-tokens
decreases-tokens l = length l.reader.tokens.now - l.next
