-- Laws of canonical text.
use Rattle.std.specs.Prelude.{ℕ, ◌≡◌, List, true, Ok, length}
use Rattle.tsa_base.specs.Tokens.{Lexeme, tokens_of}
use Rattle.tsa_tree.specs.expressions.Syntax.{Expression, plain}
use Rattle.tsa_tree.specs.tokens.Signs.{Aliases}
use Rattle.tsa_tree.specs.expressions.Answers.{Part, an_expression, Spells}
use Rattle.tsa_grammar.specs.Reading.{all}
use Rattle.tsa_print.specs.Canonical.{canonical}
use Rattle.tsa_print.specs.Writable.{is_writable, has_plain_bases}

-- all these tokens spell the expression
abbrev pub SpellsAll : List Lexeme → Aliases → Expression → Type 0
SpellsAll tokens aliases tree = Spells tokens aliases all an_expression 0 tree 0 (length tokens)

-- the tokens of its canonical text spell the same tree, and no other
pub record IsReadAgain (aliases : Aliases) (tree : Expression) : Type 0 where
  pub tokens : List Lexeme
  pub of_text : tokens_of (canonical tree) ≡ Ok tokens
  pub read : Expression
  pub spelled : SpellsAll tokens aliases read
  pub same : plain read ≡ plain tree
  pub no_other : (other : Expression) → SpellsAll tokens aliases other → other ≡ read

abbrev pub WritableIsReadAgain : Type 0
WritableIsReadAgain = (aliases : Aliases) (tree : Expression) → is_writable aliases tree ≡ true → IsReadAgain aliases tree

-- an expression that was read from a text can be written, if no `.` in it has a number as its base
abbrev pub ReadIsWritable : Type 0
ReadIsWritable = (text : List ℕ) (tokens : List Lexeme) (aliases : Aliases) (p : Part) (depth : ℕ) (tree : Expression) (a b : ℕ) →
    tokens_of text ≡ Ok tokens → Spells tokens aliases all p depth tree a b → has_plain_bases tree ≡ true →
    is_writable aliases tree ≡ true
