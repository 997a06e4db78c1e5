use Rattle.std.proofs.Common.{◌≡◌, ◌*◌, ◌++◌, replicate}
use Rattle.tsa_print.specs.Layout.{indentation}
use Rattle.tsa_print.proofs.sheet.indent.Given as goal

abbrev pub invariant-blanks : goal.invariant-blanks
invariant-blanks l = l.text.items ++ replicate (2 * l.left) 32 ≡ l.fn.text.items ++ indentation l.levels

abbrev pub decreases-blanks : goal.decreases-blanks
decreases-blanks l = l.left
