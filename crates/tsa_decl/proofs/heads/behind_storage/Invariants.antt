use Rattle.std.proofs.Common.{◌≡◌, ◌≤◌, length, ◌-◌}
use Rattle.tsa_expr.specs.Source.{input, named}
use Rattle.tsa_decl.specs.Outcomes.{storage_at}
use Rattle.tsa_decl.proofs.heads.behind_storage.Given as goal

abbrev pub invariant-words : goal.invariant-words
invariant-words l =
    (l.at ≤ l.next)
    × (storage_at (input l.reader) (named l.reader) l.at ≡ storage_at (input l.reader) (named l.reader) l.next)

abbrev pub decreases-words : goal.decreases-words
decreases-words l = length l.reader.tokens.now - l.next
