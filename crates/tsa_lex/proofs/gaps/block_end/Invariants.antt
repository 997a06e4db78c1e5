use Rattle.std.proofs.Common.{◌≡◌, ◌+◌, drop}
use Rattle.tsa_base.specs.Tokens.{map_length, block_end}
use Rattle.tsa_lex.proofs.gaps.block_end.Given as goal

abbrev pub invariant-pairs : goal.invariant-pairs
invariant-pairs l = block_end l.text ≡ map_length (λ n. l.at + n) (block_end (drop l.at l.text))
