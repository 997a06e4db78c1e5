-- What is spelled has at least one token, and a list of arguments may have none.
use Rattle.std.proofs.Common.{ℕ, ◌<◌, ◌≤◌, List, Bool, arith}
use Rattle.tsa_base.specs.Tokens.{Lexeme}
use Rattle.tsa_tree.specs.expressions.Syntax.{Expression, Arguments}
use Rattle.tsa_tree.specs.tokens.Signs.{Aliases}
use Rattle.tsa_tree.specs.expressions.Spelling.{IsExpression, of_unary, of_binary, IsUnary, of_postfix, of_prefix, IsPostfix, of_primary}
use Rattle.tsa_tree.specs.expressions.Spelling.{of_field, of_index, IsPrimary, of_number, of_null, of_name, of_call, of_parentheses}
use Rattle.tsa_tree.specs.expressions.Spelling.{IsArguments, of_none, of_some, IsSeries, of_last, of_further}

module _ {tokens : List Lexeme} {aliases : Aliases} {fits : ℕ → Bool} where
  mutual
    pub ahead-expression : {d k : ℕ} {t : Expression} {a b : ℕ} → IsExpression tokens aliases fits d k t a b → a < b
    ahead-expression (of_unary u) = ahead-unary u
    ahead-expression (of_binary l o le f r) = omega (arith, ahead-expression l, ahead-expression r)

    pub ahead-unary : {d : ℕ} {t : Expression} {a b : ℕ} → IsUnary tokens aliases fits d t a b → a < b
    ahead-unary (of_postfix p) = ahead-postfix p
    ahead-unary (of_prefix o f u) = omega (arith, ahead-unary u)

    pub ahead-postfix : {d : ℕ} {t : Expression} {a b : ℕ} → IsPostfix tokens aliases fits d t a b → a < b
    ahead-postfix (of_primary p) = ahead-primary p
    ahead-postfix (of_field p x f n) = omega (arith, ahead-postfix p)
    ahead-postfix (of_index p o f g i c) = omega (arith, ahead-postfix p, ahead-expression i)

    pub ahead-primary : {d : ℕ} {t : Expression} {a b : ℕ} → IsPrimary tokens aliases fits d t a b → a < b
    ahead-primary (of_number s) = omega arith
    ahead-primary (of_null s) = omega arith
    ahead-primary (of_name s) = omega arith
    ahead-primary (of_call n o f xs c) = omega (arith, ahead-arguments xs)
    ahead-primary (of_parentheses o f t c) = omega (arith, ahead-expression t)

    pub ahead-arguments : {d : ℕ} {xs : Arguments} {a b : ℕ} → IsArguments tokens aliases fits d xs a b → a ≤ b
    ahead-arguments of_none = omega arith
    ahead-arguments (of_some s) = omega (arith, ahead-series s)

    pub ahead-series : {d : ℕ} {xs : Arguments} {a b : ℕ} → IsSeries tokens aliases fits d xs a b → a < b
    ahead-series (of_last t) = ahead-expression t
    ahead-series (of_further t c s) = omega (arith, ahead-expression t, ahead-series s)
