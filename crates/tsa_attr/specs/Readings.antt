-- What the readers' results are without the arena.
use Rattle.std.specs.Prelude.{ℕ, ◌<◌, ◌≤◌, length, List, [], ◌∷◌, Bool, Some, None}
use Rattle.std.specs.declared.option.Option.{Option}
use Rattle.tsa_base.specs.declared.token.Span.{Span}
use Rattle.tsa_tree.specs.declared.attr.AttrKind.{AttrKind}
use Rattle.tsa_tree.specs.declared.sign.Sign.{Sign}
use Rattle.tsa_tree.specs.declared.sign.Sign.TheVariants as sign
use Rattle.tsa_tree.specs.attributes.Syntax.{Attribute, attr_shape}
use Rattle.tsa_tree.specs.attributes.Syntax as takes
use Rattle.tsa_tree.specs.expressions.Syntax.{Arguments}
use Rattle.tsa_tree.specs.Rows as rows
use Rattle.tsa_expr.specs.declared.source.Reader.{Reader}
use Rattle.tsa_attr.specs.declared.balance.Closer.{Closer}
use Rattle.tsa_attr.specs.declared.balance.Closer.TheVariants.{Parenthesis, Bracket, Brace}
use Rattle.tsa_attr.specs.declared.reading.Reading.{Reading}
use Rattle.tsa_attr.specs.declared.view.Content.{Content}
use Rattle.tsa_attr.specs.declared.view.Content.TheVariants.{Text, Expression, Expressions, Try}

-- an attribute that was read, and the place after it
abbrev pub seen : Reading → List Attribute × ℕ
seen reading = (attr_shape reading.attr ∷ [], reading.next)

-- nothing was made up to this place
abbrev pub passed : ℕ → Unit {0} × ℕ
passed next = (tt, next)

abbrev pub made : AttrKind → Option (List ℕ) → Option Bool → Arguments → Span → Attribute
made kind text success args span = record { kind = kind; text = text; success = success; args = args; span = span }

-- the rows' closers
abbrev pub row_closer : Closer → rows.Closer
row_closer Parenthesis = rows.closing_parenthesis
row_closer Bracket = rows.closing_bracket
row_closer Brace = rows.closing_brace

-- the definitions' takings
abbrev pub taking_of : Content → takes.Taking
taking_of Text = takes.a_text
taking_of Expression = takes.one_expression
taking_of Expressions = takes.expressions
taking_of Try = takes.a_try

-- what closes the list that a sign opens
abbrev pub opened_by : Sign → Option Closer
opened_by sign.Open = Some Parenthesis
opened_by sign.OpenBracket = Some Bracket
opened_by sign.OpenBrace = Some Brace
opened_by _ = None

-- a place after another, in the tokens
abbrev pub IsBehind : Reader → (at next : ℕ) → Type 0
IsBehind reader at next = (at < next) × (next ≤ length reader.tokens.now)
