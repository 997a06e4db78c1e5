use Rattle.std.proofs.Common.{map}
use Rattle.tsa_warn_text.proofs.HeldWords.{AreTold}
use Rattle.tsa_warn_text.proofs.held.push_set.Given as goal

-- the words of the members below the number are there
abbrev pub invariant-numbers : goal.invariant-numbers
invariant-numbers l = AreTold (map (λ name. name.now) l.tries) l.set l.number l.fn.text.items l.text.items l.bar
