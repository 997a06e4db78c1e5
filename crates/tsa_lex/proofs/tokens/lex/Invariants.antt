use Rattle.std.proofs.Common.{◌≤◌, ◌-◌, length, map, vec_len}
use Rattle.tsa_base.specs.Tokens.{lexeme}
use Rattle.tsa_lex.proofs.Steps.{ReadTo}
use Rattle.tsa_lex.proofs.tokens.lex.Given as goal

abbrev pub invariant-pieces : goal.invariant-pieces
invariant-pieces l = record {
  within : l.at ≤ length l.source;
  many : vec_len l.tokens ≤ l.at;
  read : ReadTo l.source l.at (map lexeme l.tokens.items);
}

abbrev pub decreases-pieces : goal.decreases-pieces
decreases-pieces l = length l.source - l.at
