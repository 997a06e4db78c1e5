-- The tokens of a text of a size that is taken.
use Rattle.std.specs.Prelude.{ℕ, ◌≤◌, ◌≡◌, List, Ok, length}
use Rattle.tsa_base.specs.Tokens.{Lexeme, tokens_of}

-- the tokens are all those of some text, in order, and the text has at most so many bytes
pub record AreOfText (tokens : List Lexeme) : Type 0 where
  pub text : List ℕ
  pub small : length text ≤ 1048576
  pub lexed : tokens_of text ≡ Ok tokens
