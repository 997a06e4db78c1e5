-- Laws of the grammar of expressions.
use Rattle.std.specs.Prelude.{ℕ, ◌≤◌, ◌≡◌, List, Bool, None}
use Rattle.tsa_base.specs.Tokens.{Lexeme}
use Rattle.tsa_tree.specs.expressions.Syntax.{Expression}
use Rattle.tsa_tree.specs.tokens.Signs.{Aliases}
use Rattle.tsa_tree.specs.Rows as rows
use Rattle.tsa_tree.specs.Rows.{sees, rule, expression, operand}
use Rattle.tsa_tree.specs.expressions.Answers.{Part, an_expression, a_unary, Spells, Begins, IsAnswer}
use Rattle.tsa_grammar.specs.Spelling as forms
use Rattle.tsa_grammar.specs.Reading.{Outcome, all}

-- the part as a call of the rows
abbrev pub call_of : Aliases → Part → ℕ → rows.Call rows.an_expression
call_of aliases an_expression depth = expression aliases depth 0
call_of aliases a_unary depth = operand aliases depth

abbrev pub RowsSpell : List Lexeme → Aliases → (ℕ → Bool) → Part → ℕ → Expression → ℕ → ℕ → Type 0
RowsSpell tokens aliases fits p depth tree a b =
    forms.Spells (rule tokens) (sees tokens) fits rows.an_expression (call_of aliases p depth) tree a b

abbrev pub RowsBegin : List Lexeme → Aliases → (ℕ → Bool) → Part → ℕ → ℕ → ℕ → Type 0
RowsBegin tokens aliases fits p depth a b =
    forms.Begins (rule tokens) (sees tokens) fits rows.an_expression (call_of aliases p depth) a b None

-- the rows spell what the productions spell, and nothing else
abbrev pub SpellTheSame : Type 0
SpellTheSame = (tokens : List Lexeme) (aliases : Aliases) (fits : ℕ → Bool) (p : Part) (depth : ℕ) (tree : Expression) (a b : ℕ) →
    (Spells tokens aliases fits p depth tree a b → RowsSpell tokens aliases fits p depth tree a b)
    × (RowsSpell tokens aliases fits p depth tree a b → Spells tokens aliases fits p depth tree a b)

-- and so for what begins it
abbrev pub BeginTheSame : Type 0
BeginTheSame = (tokens : List Lexeme) (aliases : Aliases) (fits : ℕ → Bool) (p : Part) (depth a b : ℕ) →
    (Begins tokens aliases fits p depth a b → RowsBegin tokens aliases fits p depth a b)
    × (RowsBegin tokens aliases fits p depth a b → Begins tokens aliases fits p depth a b)

-- two trees that the same tokens spell are equal
abbrev pub OneTree : Type 0
OneTree = (tokens : List Lexeme) (aliases : Aliases) (p : Part) (depth : ℕ) (tree other : Expression) (a b : ℕ) →
    Spells tokens aliases all p depth tree a b → Spells tokens aliases all p depth other a b → tree ≡ other

-- every first piece of what is spelled begins it
abbrev pub PiecesBegin : Type 0
PiecesBegin = (tokens : List Lexeme) (aliases : Aliases) (fits : ℕ → Bool) (p : Part) (depth : ℕ) (tree : Expression) (a b i : ℕ) →
    a ≤ i → i ≤ b → Spells tokens aliases fits p depth tree a b → Begins tokens aliases fits p depth a i

-- there is an answer for every list and place, and only one
abbrev pub OneAnswer : Type 0
OneAnswer = (tokens : List Lexeme) (aliases : Aliases) (p : Part) (depth a : ℕ) →
    (answer : Outcome Expression) × IsAnswer tokens aliases p depth a answer
    × ((other : Outcome Expression) → IsAnswer tokens aliases p depth a other → other ≡ answer)
