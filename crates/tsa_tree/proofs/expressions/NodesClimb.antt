-- The nodes of an expression stand in the order of the text.
use Rattle.std.proofs.Common.{ℕ, ◌+◌, List, Bool, arith}
use Rattle.tsa_base.specs.Tokens.{Lexeme}
use Rattle.tsa_tree.specs.expressions.Syntax.{Expression, Arguments}
use Rattle.tsa_tree.specs.tokens.Signs.{Aliases}
use Rattle.tsa_tree.specs.expressions.Spelling.{IsExpression, of_unary, of_binary, IsUnary, of_postfix, of_prefix, IsPostfix, of_primary}
use Rattle.tsa_tree.specs.expressions.Spelling.{of_field, of_index, IsPrimary, of_number, of_null, of_name, of_call, of_parentheses}
use Rattle.tsa_tree.specs.expressions.Spelling.{IsArguments, of_none, of_some, IsSeries, of_last, of_further}
use Rattle.tsa_tree.specs.units.Order.{places_in_expression, places_in_arguments}
use Rattle.tsa_tree.proofs.expressions.TokenCounts.{ahead-expression, ahead-unary, ahead-postfix, ahead-arguments}
use Rattle.tsa_tree.proofs.tokens.Climbing.{Climbs, no_place, place_at, climbs-within, climbs-then, climbs-last, climbs-over}

module _ {tokens : List Lexeme} {aliases : Aliases} {fits : ℕ → Bool} where
  mutual
    pub climbs-expression : {d k : ℕ} {t : Expression} {a b : ℕ} → IsExpression tokens aliases fits d k t a b → Climbs tokens a b (places_in_expression t)
    climbs-expression (of_unary u) = climbs-unary u
    climbs-expression (of_binary {a = a} {b = b} l o le f r) =
        let lt = ahead-expression l in
        let lt' = ahead-expression r in
        climbs-over a b (climbs-then (climbs-expression l) (omega arith) (climbs-expression r)) (omega arith) (omega arith) (omega arith) (omega arith)

    pub climbs-unary : {d : ℕ} {t : Expression} {a b : ℕ} → IsUnary tokens aliases fits d t a b → Climbs tokens a b (places_in_expression t)
    climbs-unary (of_postfix p) = climbs-postfix p
    climbs-unary (of_prefix {a = a} {b = b} o f u) =
        let lt = ahead-unary u in
        climbs-over a b (climbs-unary u) (omega arith) (omega arith) (omega arith) (omega arith)

    climbs-postfix : {d : ℕ} {t : Expression} {a b : ℕ} → IsPostfix tokens aliases fits d t a b → Climbs tokens a b (places_in_expression t)
    climbs-postfix (of_primary p) = climbs-primary p
    climbs-postfix (of_field {a = a} {m = m} p x f n) =
        let lt = ahead-postfix p in
        climbs-over a (m + 1 + 1) (climbs-postfix p) (omega arith) (omega arith) (omega arith) (omega arith)
    climbs-postfix (of_index {a = a} {b = b} p o f g i c) =
        let lt = ahead-postfix p in
        let lt' = ahead-expression i in
        climbs-over a (b + 1) (climbs-then (climbs-postfix p) (omega arith) (climbs-expression i)) (omega arith) (omega arith) (omega arith) (omega arith)

    climbs-primary : {d : ℕ} {t : Expression} {a b : ℕ} → IsPrimary tokens aliases fits d t a b → Climbs tokens a b (places_in_expression t)
    climbs-primary (of_number {a = a} s) = place_at a (omega arith) (omega arith) (no_place (omega arith))
    climbs-primary (of_null {a = a} s) = place_at a (omega arith) (omega arith) (no_place (omega arith))
    climbs-primary (of_name {a = a} s) = place_at a (omega arith) (omega arith) (no_place (omega arith))
    climbs-primary (of_call {a = a} {b = b} n o f xs c) =
        let le = ahead-arguments xs in
        climbs-over a (b + 1) (climbs-arguments xs) (omega arith) (omega arith) (omega arith) (omega arith)
    climbs-primary (of_parentheses o f t c) = climbs-within (climbs-expression t) (omega arith) (omega arith)

    climbs-arguments : {d : ℕ} {xs : Arguments} {a b : ℕ} → IsArguments tokens aliases fits d xs a b → Climbs tokens a b (places_in_arguments xs)
    climbs-arguments of_none = no_place (omega arith)
    climbs-arguments (of_some s) = climbs-series s

    pub climbs-series : {d : ℕ} {xs : Arguments} {a b : ℕ} → IsSeries tokens aliases fits d xs a b → Climbs tokens a b (places_in_arguments xs)
    climbs-series (of_last t) = climbs-last (climbs-expression t)
    climbs-series (of_further t c s) = climbs-then (climbs-expression t) (omega arith) (climbs-series s)
