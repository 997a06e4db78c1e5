-- The spans in an expression are those of its tokens.
use Rattle.std.proofs.Common.{ℕ, ◌+◌, List, Bool, arith}
use Rattle.tsa_base.specs.Tokens.{Lexeme}
use Rattle.tsa_tree.specs.expressions.Syntax.{Expression, Arguments}
use Rattle.tsa_tree.specs.tokens.Signs.{Aliases}
use Rattle.tsa_tree.specs.expressions.Spelling.{IsExpression, of_unary, of_binary, IsUnary, of_postfix, of_prefix, IsPostfix, of_primary}
use Rattle.tsa_tree.specs.expressions.Spelling.{of_field, of_index, IsPrimary, of_number, of_null, of_name, of_call, of_parentheses}
use Rattle.tsa_tree.specs.expressions.Spelling.{IsArguments, of_none, of_some, IsSeries, of_last, of_further}
use Rattle.tsa_tree.specs.units.Spans.{spans_in_expression, spans_in_arguments}
use Rattle.tsa_tree.proofs.expressions.TokenCounts.{ahead-expression, ahead-unary, ahead-postfix, ahead-arguments}
use Rattle.tsa_tree.proofs.tokens.Covering.{Cover, no_span, over, token_at, name_at, cover-within, cover-both, cover-then, cover-last}

module _ {tokens : List Lexeme} {aliases : Aliases} {fits : ℕ → Bool} where
  mutual
    pub cover-expression : {d k : ℕ} {t : Expression} {a b : ℕ} → IsExpression tokens aliases fits d k t a b → Cover tokens a b (spans_in_expression t)
    cover-expression (of_unary u) = cover-unary u
    cover-expression (of_binary {a = a} {b = b} l o le f r) =
        let lt = ahead-expression l in
        let lt' = ahead-expression r in
        over a b (omega arith) (omega arith) (omega arith) (cover-then (cover-expression l) (omega arith) (cover-expression r))

    pub cover-unary : {d : ℕ} {t : Expression} {a b : ℕ} → IsUnary tokens aliases fits d t a b → Cover tokens a b (spans_in_expression t)
    cover-unary (of_postfix p) = cover-postfix p
    cover-unary (of_prefix {a = a} {b = b} o f u) =
        let lt = ahead-unary u in
        over a b (omega arith) (omega arith) (omega arith) (cover-within (cover-unary u) (omega arith) (omega arith))

    pub cover-postfix : {d : ℕ} {t : Expression} {a b : ℕ} → IsPostfix tokens aliases fits d t a b → Cover tokens a b (spans_in_expression t)
    cover-postfix (of_primary p) = cover-primary p
    cover-postfix (of_field {a = a} {m = m} p x f n) =
        let lt = ahead-postfix p in
        over a (m + 1 + 1) (omega arith) (omega arith) (omega arith)
        (cover-both (cover-within (cover-postfix p) (omega arith) (omega arith)) (name_at (m + 1) (omega arith) (omega arith) (no_span (omega arith))))
    cover-postfix (of_index {a = a} {b = b} p o f g i c) =
        let lt = ahead-postfix p in
        let lt' = ahead-expression i in
        over a (b + 1) (omega arith) (omega arith) (omega arith)
        (cover-both (cover-within (cover-postfix p) (omega arith) (omega arith)) (cover-within (cover-expression i) (omega arith) (omega arith)))

    pub cover-primary : {d : ℕ} {t : Expression} {a b : ℕ} → IsPrimary tokens aliases fits d t a b → Cover tokens a b (spans_in_expression t)
    cover-primary (of_number {a = a} s) = token_at a (omega arith) (omega arith) (no_span (omega arith))
    cover-primary (of_null {a = a} s) = token_at a (omega arith) (omega arith) (no_span (omega arith))
    cover-primary (of_name {a = a} s) = token_at a (omega arith) (omega arith) (name_at a (omega arith) (omega arith) (no_span (omega arith)))
    cover-primary (of_call {a = a} {b = b} n o f xs c) =
        let le = ahead-arguments xs in
        over a (b + 1) (omega arith) (omega arith) (omega arith)
        (name_at a (omega arith) (omega arith) (cover-within (cover-arguments xs) (omega arith) (omega arith)))
    cover-primary (of_parentheses o f t c) = cover-within (cover-expression t) (omega arith) (omega arith)

    pub cover-arguments : {d : ℕ} {xs : Arguments} {a b : ℕ} → IsArguments tokens aliases fits d xs a b → Cover tokens a b (spans_in_arguments xs)
    cover-arguments of_none = no_span (omega arith)
    cover-arguments (of_some s) = cover-series s

    pub cover-series : {d : ℕ} {xs : Arguments} {a b : ℕ} → IsSeries tokens aliases fits d xs a b → Cover tokens a b (spans_in_arguments xs)
    cover-series (of_last t) = cover-last (cover-expression t)
    cover-series (of_further t c s) = cover-then (cover-expression t) (omega arith) (cover-series s)
