-- Laws of the grammar of statements.
use Rattle.std.specs.Prelude.{ℕ, ◌≡◌, ◌≤◌, List, Bool, None, length}
use Rattle.tsa_base.specs.Tokens.{Lexeme}
use Rattle.tsa_tree.specs.Rows.{a_statement, statement, sees, rule}
use Rattle.tsa_tree.specs.tokens.Signs.{Aliases}
use Rattle.tsa_tree.specs.statements.Spelling.{IsStatement}
use Rattle.tsa_tree.specs.statements.Syntax.{Statement}
use Rattle.tsa_grammar.specs.Spelling as forms
use Rattle.tsa_grammar.specs.Reading.{all}

abbrev pub RowsSpell : List Lexeme → Aliases → (ℕ → Bool) → (depth : ℕ) → Statement → (a b : ℕ) → Type 0
RowsSpell tokens aliases fits depth x a b = forms.Spells (rule tokens) (sees tokens) fits a_statement (statement aliases depth) x a b

-- the rows spell what the productions spell, and nothing else
abbrev pub SpellTheSame : Type 0
SpellTheSame = (tokens : List Lexeme) (aliases : Aliases) (fits : ℕ → Bool) (depth : ℕ) (x : Statement) (a b : ℕ) →
    (IsStatement tokens aliases fits depth x a b → RowsSpell tokens aliases fits depth x a b)
    × (RowsSpell tokens aliases fits depth x a b → IsStatement tokens aliases fits depth x a b)

-- two statements that the same tokens spell, to the last one, are equal: an `else` has one `if`
abbrev pub OneStatement : Type 0
OneStatement = (tokens : List Lexeme) (aliases : Aliases) (depth : ℕ) (x y : Statement) (a : ℕ) →
    IsStatement tokens aliases all depth x a (length tokens) → IsStatement tokens aliases all depth y a (length tokens) → x ≡ y

-- every first piece of what is spelled begins it
abbrev pub PiecesBegin : Type 0
PiecesBegin = (tokens : List Lexeme) (aliases : Aliases) (fits : ℕ → Bool) (depth : ℕ) (x : Statement) (a b i : ℕ) →
    a ≤ i → i ≤ b → IsStatement tokens aliases fits depth x a b →
    forms.Begins (rule tokens) (sees tokens) fits a_statement (statement aliases depth) a i None
