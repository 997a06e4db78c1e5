-- Where a token after what is spelled could go on with it, the tokens up to after that one begin an expression too.
use Rattle.std.proofs.Common.{ℕ, ◌+◌, ◌-◌, ◌≤◌, ◌≡◌, ◌∙◌, ap, sym, refl, List, true, false, Some, arith, inl, inr}
use Rattle.std.proofs.lemmas.Bool.{cases_lt}
use Rattle.tsa_base.specs.Tokens.{Lexeme}
use Rattle.tsa_tree.specs.declared.expr.BinaryOp.{BinaryOp}
use Rattle.tsa_tree.specs.declared.sign.Sign.{Sign}
use Rattle.tsa_tree.specs.declared.sign.Sign.TheVariants as sign
use Rattle.tsa_tree.specs.expressions.Syntax.{Expression}
use Rattle.tsa_tree.specs.tokens.Signs.{Aliases, sign_at, operator, level, access}
use Rattle.tsa_tree.specs.Rows.{is_postfix}
use Rattle.tsa_tree.specs.expressions.Spelling.{IsExpression, of_unary, of_binary, IsUnary, of_postfix, of_prefix, IsPostfix, of_primary}
use Rattle.tsa_tree.specs.expressions.Spelling.{of_field, of_index, IsPrimary, of_number, of_null, of_name, of_call, of_parentheses}
use Rattle.tsa_tree.specs.expressions.Beginnings.{BeginsExpression, begins_unary, begins_right, BeginsUnary, begins_nothing, begins_operand}
use Rattle.tsa_tree.specs.expressions.Beginnings.{begins_call, begins_member, begins_index, begins_item}
use Rattle.tsa_tree.proofs.RowFacts.{last_named}
use Rattle.tsa_grammar.specs.Reading.{all}

module _ (tokens : List Lexeme) (aliases : Aliases) where
  -- an operator after a whole operand
  member_or_index : {d : ℕ} {t : Expression} {a b : ℕ} (s : Sign) → sign_at tokens aliases b ≡ s → is_postfix s ≡ true
      → IsPostfix tokens aliases all d t a b → BeginsUnary tokens aliases all d a (b + 1)
  member_or_index sign.Dot e h p = begins_member {arrow = false} p (ap access e) refl
  member_or_index sign.Arrow e h p = begins_member {arrow = true} p (ap access e) refl
  member_or_index sign.OpenBracket e h p = begins_index p e refl refl (begins_unary begins_nothing)
  member_or_index _ e h p = cc

  pub unary_goes_on : {d : ℕ} {t : Expression} {a b : ℕ} → is_postfix (sign_at tokens aliases b) ≡ true
      → IsUnary tokens aliases all d t a b → BeginsUnary tokens aliases all d a (b + 1)
  unary_goes_on {b = b} h (of_postfix p) = member_or_index (sign_at tokens aliases b) refl h p
  unary_goes_on h (of_prefix o f u) = begins_operand o f (unary_goes_on h u)

  pub expression_goes_on : {d k : ℕ} {t : Expression} {a b : ℕ} → is_postfix (sign_at tokens aliases b) ≡ true
      → IsExpression tokens aliases all d k t a b → BeginsExpression tokens aliases all d k a (b + 1)
  expression_goes_on h (of_unary u) = begins_unary (unary_goes_on h u)
  expression_goes_on h (of_binary l o le f r) = begins_right l o le f (expression_goes_on h r)

  -- an operator after an expression belongs to it, or to its right operand where it binds tighter
  pub operator_goes_on : {d k : ℕ} {t : Expression} {a b : ℕ} (op : BinaryOp) → operator (sign_at tokens aliases b) ≡ Some op → k ≤ level op
      → IsExpression tokens aliases all d k t a b → BeginsExpression tokens aliases all d k a (b + 1)
  operator_goes_on op e le (of_unary u) = begins_right (of_unary u) e le refl (begins_unary begins_nothing)
  operator_goes_on op e le (of_binary {op = other} l o le' f r) =
      elim (cases_lt (level other) (level op)) [
        | inl lt ↦ begins_right l o le' f (operator_goes_on op e (omega arith) r)
        | inr ge ↦ begins_right (of_binary l o ge f r) e le refl (begins_unary begins_nothing)
      ]

  name_no_close : {A : Type 0} (b : ℕ) → sign_at tokens aliases (b + 1 - 1) ≡ sign.Name → sign_at tokens aliases b ≡ sign.Close → A
  name_no_close b n c =
      let e : b + 1 - 1 ≡ b = omega arith in
      let never : sign.Name ≡ sign.Close = sym n ∙ ap (sign_at tokens aliases) e ∙ c in cc

  -- a name that ends it becomes a callee by a parenthesis
  primary_calls : {d : ℕ} {t : Expression} {a b : ℕ} → last_named t ≡ true → sign_at tokens aliases (b - 1) ≡ sign.Name
      → sign_at tokens aliases b ≡ sign.Open → IsPrimary tokens aliases all d t a b → BeginsUnary tokens aliases all d a (b + 1)
  primary_calls l n o (of_number s) = cc
  primary_calls l n o (of_null s) = cc
  primary_calls l n o (of_name s) = begins_call s o refl (begins_item (begins_unary begins_nothing))
  primary_calls l n o (of_call n' o' f xs c) = cc
  primary_calls l n o (of_parentheses {b = b} o' f t c) = name_no_close b n c

  postfix_calls : {d : ℕ} {t : Expression} {a b : ℕ} → last_named t ≡ true → sign_at tokens aliases (b - 1) ≡ sign.Name
      → sign_at tokens aliases b ≡ sign.Open → IsPostfix tokens aliases all d t a b → BeginsUnary tokens aliases all d a (b + 1)
  postfix_calls l n o (of_primary p) = primary_calls l n o p
  postfix_calls l n o (of_field p x f n') = cc
  postfix_calls l n o (of_index p o' f g i c) = cc

  pub unary_calls : {d : ℕ} {t : Expression} {a b : ℕ} → last_named t ≡ true → sign_at tokens aliases (b - 1) ≡ sign.Name
      → sign_at tokens aliases b ≡ sign.Open → IsUnary tokens aliases all d t a b → BeginsUnary tokens aliases all d a (b + 1)
  unary_calls l n o (of_postfix p) = postfix_calls l n o p
  unary_calls l n o (of_prefix x f u) = begins_operand x f (unary_calls l n o u)

  pub expression_calls : {d k : ℕ} {t : Expression} {a b : ℕ} → last_named t ≡ true → sign_at tokens aliases (b - 1) ≡ sign.Name
      → sign_at tokens aliases b ≡ sign.Open → IsExpression tokens aliases all d k t a b → BeginsExpression tokens aliases all d k a (b + 1)
  expression_calls l n o (of_unary u) = begins_unary (unary_calls l n o u)
  expression_calls l n o (of_binary l' o' le f r) = begins_right l' o' le f (expression_calls l n o r)
