-- The names in an expression stand one after the other.
use Rattle.std.proofs.Common.{ℕ, ◌+◌, List, Bool, arith}
use Rattle.tsa_base.specs.Tokens.{Lexeme}
use Rattle.tsa_tree.specs.expressions.Syntax.{Expression, Arguments}
use Rattle.tsa_tree.specs.tokens.Signs.{Aliases}
use Rattle.tsa_tree.specs.expressions.Spelling.{IsExpression, of_unary, of_binary, IsUnary, of_postfix, of_prefix, IsPostfix, of_primary}
use Rattle.tsa_tree.specs.expressions.Spelling.{of_field, of_index, IsPrimary, of_number, of_null, of_name, of_call, of_parentheses}
use Rattle.tsa_tree.specs.expressions.Spelling.{IsArguments, of_none, of_some, IsSeries, of_last, of_further}
use Rattle.tsa_tree.specs.units.Names.{names_in_expression, names_in_arguments}
use Rattle.tsa_tree.proofs.tokens.Rising.{Rises, no_name, name_at, rises-within, rises-then, rises-next, rises-here, rises-last}

module _ {tokens : List Lexeme} {aliases : Aliases} {fits : ℕ → Bool} where
  mutual
    pub rises-expression : {d k : ℕ} {t : Expression} {a b : ℕ} → IsExpression tokens aliases fits d k t a b → Rises tokens a b (names_in_expression t)
    rises-expression (of_unary u) = rises-unary u
    rises-expression (of_binary l o le f r) = rises-then (rises-expression l) (omega arith) (rises-expression r)

    pub rises-unary : {d : ℕ} {t : Expression} {a b : ℕ} → IsUnary tokens aliases fits d t a b → Rises tokens a b (names_in_expression t)
    rises-unary (of_postfix p) = rises-postfix p
    rises-unary (of_prefix o f u) = rises-within (rises-unary u) (omega arith) (omega arith)

    pub rises-postfix : {d : ℕ} {t : Expression} {a b : ℕ} → IsPostfix tokens aliases fits d t a b → Rises tokens a b (names_in_expression t)
    rises-postfix (of_primary p) = rises-primary p
    rises-postfix (of_field {m = m} p x f n) = rises-next (rises-postfix p) (rises-here (m + 1)) (omega arith) (omega arith)
    rises-postfix (of_index p o f g i c) = rises-next (rises-postfix p) (rises-expression i) (omega arith) (omega arith)

    pub rises-primary : {d : ℕ} {t : Expression} {a b : ℕ} → IsPrimary tokens aliases fits d t a b → Rises tokens a b (names_in_expression t)
    rises-primary (of_number s) = no_name (omega arith)
    rises-primary (of_null s) = no_name (omega arith)
    rises-primary (of_name {a = a} s) = rises-here a
    rises-primary (of_call {a = a} n o f xs c) = name_at a (omega arith) (rises-within (rises-arguments xs) (omega arith) (omega arith))
    rises-primary (of_parentheses o f t c) = rises-within (rises-expression t) (omega arith) (omega arith)

    pub rises-arguments : {d : ℕ} {xs : Arguments} {a b : ℕ} → IsArguments tokens aliases fits d xs a b → Rises tokens a b (names_in_arguments xs)
    rises-arguments of_none = no_name (omega arith)
    rises-arguments (of_some s) = rises-series s

    pub rises-series : {d : ℕ} {xs : Arguments} {a b : ℕ} → IsSeries tokens aliases fits d xs a b → Rises tokens a b (names_in_arguments xs)
    rises-series (of_last t) = rises-last (rises-expression t)
    rises-series (of_further t c s) = rises-then (rises-expression t) (omega arith) (rises-series s)
