-- The rows of attributes spell what the productions spell, the same lists begin them, and both refuse the same attributes.
use Rattle.std.proofs.Common.{ℕ, ◌<◌, List, Bool, Some, None}
use Rattle.tsa_base.specs.Tokens.{Lexeme}
use Rattle.tsa_tree.specs.attributes.Syntax.{Attribute}
use Rattle.tsa_tree.specs.tokens.Signs.{Aliases}
use Rattle.tsa_tree.specs.attributes.Spelling.{IsAttributes}
use Rattle.tsa_tree.specs.attributes.Beginnings.{BeginsAttributes}
use Rattle.tsa_tree.specs.attributes.Refusals.{RefusesAttributes}
use Rattle.tsa_tree.specs.Rows.{Call, an_expression, some_arguments, a_skip, some_attributes, attributes, sees, rule}
use Rattle.tsa_tree.proofs.attributes.Meanings.{Needs}
use Rattle.tsa_tree.proofs.expressions.RowsToProductions.{production_of}
use Rattle.tsa_tree.proofs.expressions.RowsToBeginnings.{beginning_of, refusal_of}
use Rattle.tsa_tree.proofs.attributes.ListsToRows.{attributes_rows, attributes_begins, attributes_refused}
use Rattle.tsa_grammar.specs.Spelling as forms

-- Where tokens are there, they are whole attributes by the rows where they are so by the productions.
pub attributes_spell : (tokens : List Lexeme) (aliases : Aliases) (fits : ℕ → Bool) (d : ℕ) (xs : List Attribute) (a b : ℕ) → a < b
    → (IsAttributes tokens aliases fits d xs a b
    → forms.Spells (rule tokens) (sees tokens) fits some_attributes (attributes aliases d) xs a b)
    × (forms.Spells (rule tokens) (sees tokens) fits some_attributes (attributes aliases d) xs a b
    → IsAttributes tokens aliases fits d xs a b)
attributes_spell tokens aliases fits d xs a b lt =
    ((λ i. attributes_rows tokens aliases fits i lt), (λ sp. production_of tokens fits sp tt))

-- The same tokens begin attributes by the rows and by the productions.
pub attributes_begin : (tokens : List Lexeme) (aliases : Aliases) (fits : ℕ → Bool) (d a b : ℕ)
    → (BeginsAttributes tokens aliases fits d a b
    → forms.Begins (rule tokens) (sees tokens) fits some_attributes (attributes aliases d) a b None)
    × (forms.Begins (rule tokens) (sees tokens) fits some_attributes (attributes aliases d) a b None
    → BeginsAttributes tokens aliases fits d a b)
attributes_begin tokens aliases fits d a b =
    ((λ h. attributes_begins tokens aliases fits h), (λ g. beginning_of tokens fits g tt))

-- The same attributes are refused by the rows and by the productions, at the same token and for the same reason.
pub attributes_refuse : (tokens : List Lexeme) (aliases : Aliases) (fits : ℕ → Bool) (d a b q : ℕ)
    → (RefusesAttributes tokens aliases fits d a b q
    → forms.Begins (rule tokens) (sees tokens) fits some_attributes (attributes aliases d) a b (Some q))
    × (forms.Begins (rule tokens) (sees tokens) fits some_attributes (attributes aliases d) a b (Some q)
    → RefusesAttributes tokens aliases fits d a b q)
attributes_refuse tokens aliases fits d a b q =
    ((λ h. attributes_refused tokens aliases fits h), (λ g. refusal_of tokens fits g tt))

-- Nothing of an expression, of arguments or of balanced tokens is refused by a rule of the grammar's own.
pub expressions_unbarred : (tokens : List Lexeme) (fits : ℕ → Bool) (c : Call an_expression) (a b q : ℕ) → Needs tokens fits an_expression c a
    → forms.Begins (rule tokens) (sees tokens) fits an_expression c a b (Some q) → ⊥
expressions_unbarred tokens fits c a b q need g = refusal_of tokens fits g need

pub arguments_unbarred : (tokens : List Lexeme) (fits : ℕ → Bool) (c : Call some_arguments) (a b q : ℕ) → Needs tokens fits some_arguments c a
    → forms.Begins (rule tokens) (sees tokens) fits some_arguments c a b (Some q) → ⊥
arguments_unbarred tokens fits c a b q need g = refusal_of tokens fits g need

pub skips_unbarred : (tokens : List Lexeme) (fits : ℕ → Bool) (c : Call a_skip) (a b q : ℕ) → Needs tokens fits a_skip c a
    → forms.Begins (rule tokens) (sees tokens) fits a_skip c a b (Some q) → ⊥
skips_unbarred tokens fits c a b q need g = refusal_of tokens fits g need
