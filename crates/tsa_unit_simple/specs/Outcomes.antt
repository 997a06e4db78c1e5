-- What the parts of statements give, by the rows.
use Rattle.std.specs.Prelude.{ℕ, ◌+◌, Bool, nat_eq, List, Some, None, Ok, Err}
use Rattle.std.specs.declared.option.Option.{Option}
use Rattle.tsa_base.specs.declared.token.Span.{Span}
use Rattle.tsa_base.specs.Tokens.{Lexeme}
use Rattle.tsa_tree.specs.declared.expr.BinaryOp.{BinaryOp}
use Rattle.tsa_tree.specs.declared.sign.Sign.{Sign}
use Rattle.tsa_tree.specs.declared.sign.Sign.TheVariants as sign
use Rattle.tsa_tree.specs.Reads.{read}
use Rattle.tsa_tree.specs.expressions.Syntax.{Expression}
use Rattle.tsa_tree.specs.Rows.{an_expression, a_simple, a_statement, expression, simple, statement, a_close, a_semicolon, mark, sees}
use Rattle.tsa_tree.specs.expressions.Answers.{below_limit}
use Rattle.tsa_tree.specs.tokens.Signs.{Aliases, sign_at, span_over, begins_statement}
use Rattle.tsa_tree.specs.statements.Syntax as plain
use Rattle.tsa_tree.specs.statements.Syntax.{Simple, Statement, Statements, none, more, spanning}
use Rattle.tsa_decl_declarators.specs.Outcomes.{one_token, name_at, opening}
use Rattle.tsa_grammar.specs.Reading.{Outcome, refuse, syntax, deep, then, choose}

-- what `++` and `--` do
abbrev pub step_in : Sign → Option BinaryOp
step_in (sign.Step op) = Some op
step_in _ = None

-- the sign of the brace that closes a block
abbrev pub closes_block : Sign → Bool
closes_block s = nat_eq (mark s) (mark sign.CloseBrace)

-- a simple statement, without what ends it
unfoldable pub simple_at : List Lexeme → Aliases → (depth at : ℕ) → Outcome Simple
simple_at tokens aliases depth at = then (read tokens a_simple (simple aliases depth) at) (λ x n. Ok (x.simple, n))

-- the same as a statement: one in the parentheses of a `for`
unfoldable pub simply_at : List Lexeme → Aliases → (depth at : ℕ) → Outcome Statement
simply_at tokens aliases depth at = then (simple_at tokens aliases depth at) (λ x n. Ok (plain.simple x, n))

-- a simple statement with its `;`
unfoldable pub simple_statement_at : List Lexeme → Aliases → (depth at : ℕ) → Outcome Statement
simple_statement_at tokens aliases depth at =
    then (simple_at tokens aliases depth at) (λ x n. then (one_token tokens (a_semicolon aliases) n) (λ u e. Ok (plain.simple (spanning x (span_over tokens at e)), e)))

-- a statement of this kind that ends with the `;` at a place
unfoldable pub closed_at : List Lexeme → Aliases → (make : Span → Statement) → (start at : ℕ) → Outcome Statement
closed_at tokens aliases make start at = then (one_token tokens (a_semicolon aliases) at) (λ u e. Ok (make (span_over tokens start e), e))

-- a jump to a label, from its word on
unfoldable pub goto_at : List Lexeme → Aliases → (start : ℕ) → Outcome Statement
goto_at tokens aliases start = then (name_at tokens aliases (start + 1)) (λ x n. closed_at tokens aliases (plain.goto x) start n)

-- a return, from its word on
unfoldable pub return_at : List Lexeme → Aliases → (depth start : ℕ) → Outcome Statement
return_at tokens aliases depth start =
    choose (sees tokens (a_semicolon aliases) (start + 1))
    (closed_at tokens aliases (plain.return None) start (start + 1))
    (then (read tokens an_expression (expression aliases depth 0) (start + 1)) (λ x n. closed_at tokens aliases (plain.return (Some x)) start n))

-- an expression in parentheses
unfoldable pub test_at : List Lexeme → Aliases → (depth at : ℕ) → Outcome Expression
test_at tokens aliases depth at =
    then (opening tokens aliases depth at) (λ u n. then (read tokens an_expression (expression aliases (depth + 1) 0) n) (λ x e.
    then (one_token tokens (a_close aliases) e) (λ u f. Ok (x, f))))

-- an expression or nothing, and the `;` after it
unfoldable pub value_or_none_at : List Lexeme → Aliases → (depth at : ℕ) → Outcome (Option Expression)
value_or_none_at tokens aliases depth at =
    choose (sees tokens (a_semicolon aliases) at)
    (Ok (None, at + 1))
    (then (read tokens an_expression (expression aliases depth 0) at) (λ x n. then (one_token tokens (a_semicolon aliases) n) (λ u e. Ok (Some x, e))))

-- a statement that is the body of another one
unfoldable pub body_at : List Lexeme → Aliases → (depth at : ℕ) → Outcome Statement
body_at tokens aliases depth at =
    choose (begins_statement (sign_at tokens aliases at))
    (choose (below_limit depth) (read tokens a_statement (statement aliases (depth + 1)) at) (Err (refuse deep at)))
    (Err (refuse syntax at))

-- the third part of a `for` or nothing, and the parenthesis after it
unfoldable pub step_at : List Lexeme → Aliases → (depth at : ℕ) → Outcome (Option Simple)
step_at tokens aliases depth at =
    choose (sees tokens (a_close aliases) at)
    (Ok (None, at + 1))
    (then (simple_at tokens aliases depth at) (λ x n. then (one_token tokens (a_close aliases) n) (λ u e. Ok (Some x, e))))

abbrev pub joined : Statements → Statements → Statements
joined none others = others
joined (more first rest) others = more first (joined rest others)

-- statements after others
abbrev pub statements_after : Statements → Outcome Statements → Outcome Statements
statements_after front read = then read (λ xs at. Ok (joined front xs, at))
