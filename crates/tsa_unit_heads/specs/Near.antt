-- Tokens of a text of a size that is taken.
use Rattle.std.specs.Prelude.{ℕ, ◌≤◌, List}
use Rattle.tsa_base.specs.declared.limits.TheConstants.{INPUT_LIMIT}
use Rattle.tsa_base.specs.Tokens.{Lexeme}
use Rattle.tsa_tree.specs.tokens.Signs.{span_at}

-- each token begins inside a text of a size that is taken
abbrev pub AreNear : List Lexeme → Type 0
AreNear tokens = (at : ℕ) → (span_at tokens at).from ≤ INPUT_LIMIT
