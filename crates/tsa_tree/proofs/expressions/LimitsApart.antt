-- What is spelled within limits is spelled without them, and so is what begins it. What is whole begins itself.
use Rattle.std.proofs.Common.{ℕ, refl, List, Bool}
use Rattle.tsa_base.specs.Tokens.{Lexeme}
use Rattle.tsa_tree.specs.expressions.Syntax.{Expression, Arguments}
use Rattle.tsa_tree.specs.tokens.Signs.{Aliases}
use Rattle.tsa_tree.specs.expressions.Spelling.{IsExpression, of_unary, of_binary, IsUnary, of_postfix, of_prefix, IsPostfix, of_primary}
use Rattle.tsa_tree.specs.expressions.Spelling.{of_field, of_index, IsPrimary, of_number, of_null, of_name, of_call, of_parentheses}
use Rattle.tsa_tree.specs.expressions.Spelling.{IsArguments, of_none, of_some, IsSeries, of_last, of_further}
use Rattle.tsa_tree.specs.expressions.Beginnings.{BeginsExpression, begins_unary, begins_left, begins_right, BeginsUnary, begins_nothing}
use Rattle.tsa_tree.specs.expressions.Beginnings.{begins_operand, begins_call, begins_parentheses, begins_base, begins_member, begins_index}
use Rattle.tsa_tree.specs.expressions.Beginnings.{BeginsArguments, begins_item, begins_next}
use Rattle.tsa_tree.specs.expressions.Answers.{Part, an_expression, a_unary, Spells, Begins}
use Rattle.tsa_grammar.specs.Reading.{all}

module _ {tokens : List Lexeme} {aliases : Aliases} {fits : ℕ → Bool} where
  mutual
    free-expression : {d k : ℕ} {t : Expression} {a b : ℕ} → IsExpression tokens aliases fits d k t a b → IsExpression tokens aliases all d k t a b
    free-expression (of_unary u) = of_unary (free-unary u)
    free-expression (of_binary l o le f r) = of_binary (free-expression l) o le refl (free-expression r)

    free-unary : {d : ℕ} {t : Expression} {a b : ℕ} → IsUnary tokens aliases fits d t a b → IsUnary tokens aliases all d t a b
    free-unary (of_postfix p) = of_postfix (free-postfix p)
    free-unary (of_prefix o f u) = of_prefix o refl (free-unary u)

    free-postfix : {d : ℕ} {t : Expression} {a b : ℕ} → IsPostfix tokens aliases fits d t a b → IsPostfix tokens aliases all d t a b
    free-postfix (of_primary p) = of_primary (free-primary p)
    free-postfix (of_field p x f n) = of_field (free-postfix p) x refl n
    free-postfix (of_index p o f g i c) = of_index (free-postfix p) o refl refl (free-expression i) c

    free-primary : {d : ℕ} {t : Expression} {a b : ℕ} → IsPrimary tokens aliases fits d t a b → IsPrimary tokens aliases all d t a b
    free-primary (of_number s) = of_number s
    free-primary (of_null s) = of_null s
    free-primary (of_name s) = of_name s
    free-primary (of_call n o f xs c) = of_call n o refl (free-arguments xs) c
    free-primary (of_parentheses o f t c) = of_parentheses o refl (free-expression t) c

    free-arguments : {d : ℕ} {xs : Arguments} {a b : ℕ} → IsArguments tokens aliases fits d xs a b → IsArguments tokens aliases all d xs a b
    free-arguments of_none = of_none
    free-arguments (of_some s) = of_some (free-series s)

    free-series : {d : ℕ} {xs : Arguments} {a b : ℕ} → IsSeries tokens aliases fits d xs a b → IsSeries tokens aliases all d xs a b
    free-series (of_last t) = of_last (free-expression t)
    free-series (of_further t c s) = of_further (free-expression t) c (free-series s)

  mutual
    free-begun : {d k a b : ℕ} → BeginsExpression tokens aliases fits d k a b → BeginsExpression tokens aliases all d k a b
    free-begun (begins_unary u) = begins_unary (free-begun-unary u)
    free-begun (begins_left t) = begins_left (free-expression t)
    free-begun (begins_right l o le f r) = begins_right (free-expression l) o le refl (free-begun r)

    free-begun-unary : {d a b : ℕ} → BeginsUnary tokens aliases fits d a b → BeginsUnary tokens aliases all d a b
    free-begun-unary begins_nothing = begins_nothing
    free-begun-unary (begins_operand o f u) = begins_operand o refl (free-begun-unary u)
    free-begun-unary (begins_call n o f xs) = begins_call n o refl (free-begun-arguments xs)
    free-begun-unary (begins_parentheses o f t) = begins_parentheses o refl (free-begun t)
    free-begun-unary (begins_base p) = begins_base (free-postfix p)
    free-begun-unary (begins_member p x f) = begins_member (free-postfix p) x refl
    free-begun-unary (begins_index p o f g i) = begins_index (free-postfix p) o refl refl (free-begun i)

    free-begun-arguments : {d a b : ℕ} → BeginsArguments tokens aliases fits d a b → BeginsArguments tokens aliases all d a b
    free-begun-arguments (begins_item t) = begins_item (free-begun t)
    free-begun-arguments (begins_next t c xs) = begins_next (free-expression t) c (free-begun-arguments xs)

  whole-unary : {d : ℕ} {t : Expression} {a b : ℕ} → IsUnary tokens aliases fits d t a b → BeginsUnary tokens aliases fits d a b
  whole-unary (of_postfix p) = begins_base p
  whole-unary (of_prefix o f u) = begins_operand o f (whole-unary u)

module _ (tokens : List Lexeme) (aliases : Aliases) (fits : ℕ → Bool) where
  pub whole : (p : Part) (d : ℕ) (t : Expression) (a b : ℕ) → Spells tokens aliases fits p d t a b → Begins tokens aliases fits p d a b
  whole an_expression d t a b h = begins_left h
  whole a_unary d t a b h = whole-unary h

  pub free-spelled : (p : Part) (d : ℕ) (t : Expression) (a b : ℕ) → Spells tokens aliases fits p d t a b → Spells tokens aliases all p d t a b
  free-spelled an_expression d t a b h = free-expression h
  free-spelled a_unary d t a b h = free-unary h

  pub free-part : (p : Part) (d a b : ℕ) → Begins tokens aliases fits p d a b → Begins tokens aliases all p d a b
  free-part an_expression d a b h = free-begun h
  free-part a_unary d a b h = free-begun-unary h
