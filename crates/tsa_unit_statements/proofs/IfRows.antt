-- An `if` by its row.
use Rattle.std.proofs.Common.{ℕ, ◌+◌, ◌≡◌, ◌∙◌, ap, refl, List, Ok}
use Rattle.tsa_base.specs.Tokens.{Lexeme}
use Rattle.tsa_grammar.specs.Form.{done}
use Rattle.tsa_grammar.specs.Reading.{then, choose}
use Rattle.tsa_tree.specs.declared.sign.Keyword.TheVariants as key
use Rattle.tsa_tree.specs.declared.sign.Sign.TheVariants as sign
use Rattle.tsa_tree.specs.expressions.Syntax.{Expression}
use Rattle.tsa_tree.specs.Rows.{a_keyword, sees, body, if_end}
use Rattle.tsa_tree.specs.tokens.Signs.{Aliases, sign_at, span_over}
use Rattle.tsa_tree.specs.statements.Syntax.{Statement, if_alone, if_else}
use Rattle.tsa_attr.proofs.Joining.{then-same}
use Rattle.tsa_unit_simple.specs.Outcomes.{test_at, body_at}
use Rattle.tsa_unit_simple.proofs.RowLaws.{going, stmt, again, row_is, word_is, test_is as test_row, body_is as body_row}
use Rattle.tsa_unit_statements.specs.Closings.{arm_at}

module _ (ts : List Lexeme) (aliases : Aliases) where
  else_is : (d m : ℕ) (x : Expression) (arm : Statement) (k : ℕ) → going ts aliases (if_end ts aliases d m x arm k) k ≡ arm_at ts aliases d m x arm k
  else_is d m x arm k =
      again (sees ts (a_keyword aliases key.Else) k) _ _ _
      ∙ ap (λ r. choose (sees ts (a_keyword aliases key.Else) k) r (Ok (if_alone x arm (span_over ts m k), k)))
      (body_row ts aliases d (k + 1) (λ other e. done (if_else x arm other (span_over ts m e))))

  pub if_is : (d m : ℕ) → sign_at ts aliases m ≡ sign.Keyword key.If
      → stmt ts aliases d m ≡ then (test_at ts aliases d (m + 1)) (λ x n. then (body_at ts aliases d n) (λ arm e. arm_at ts aliases d m x arm e))
  if_is d m e =
      row_is ts aliases d m _ e ∙ word_is ts aliases key.If m _ _ e refl
      ∙ test_row ts aliases d (m + 1) (λ x n. body ts aliases d n (λ arm e. if_end ts aliases d m x arm e))
      ∙ then-same (test_at ts aliases d (m + 1)) _ _ (λ x n.
      body_row ts aliases d n (λ arm e. if_end ts aliases d m x arm e)
      ∙ then-same (body_at ts aliases d n) _ _ (λ arm k. else_is d m x arm k))
