-- The tokens of a text are few, and each begins inside it.
use Rattle.std.proofs.Common.{◌≤◌, List, length, subst}
use Rattle.std.proofs.lemmas.List.{length-map}
use Rattle.tsa_base.specs.declared.limits.TheConstants.{INPUT_LIMIT}
use Rattle.tsa_base.specs.declared.token.Token.{Token}
use Rattle.tsa_base.specs.Tokens.{lexeme}
use Rattle.tsa_tree.specs.tokens.Signs.{lexemes}
use Rattle.tsa_tree.specs.tokens.Texts.{AreOfText}
use Rattle.tsa_tree.proofs.tokens.Texts.{text_few}

pub text_room : (tokens : List Token) → AreOfText (lexemes tokens) → length tokens ≤ INPUT_LIMIT
text_room tokens of = subst (λ n. n ≤ INPUT_LIMIT) (length-map tokens lexeme) (text_few (lexemes tokens) of)
