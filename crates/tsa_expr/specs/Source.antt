-- What a reader reads from, without its references.
use Rattle.std.specs.Prelude.{List}
use Rattle.tsa_base.specs.Tokens.{Lexeme}
use Rattle.tsa_tree.specs.tokens.Signs.{Aliases, lexemes}
use Rattle.tsa_expr.specs.TypeNames.{known}
use Rattle.tsa_expr.specs.declared.source.Reader.{Reader}

-- the tokens
abbrev pub input : Reader → List Lexeme
input reader = lexemes reader.tokens.now

-- the names of types that are known
abbrev pub named : Reader → Aliases
named reader = known reader.aliases
