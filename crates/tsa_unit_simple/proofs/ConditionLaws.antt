-- What stands in the parentheses of statements.
use Rattle.std.proofs.Common.{ℕ, ◌+◌, ◌≡◌, ◌≢◌, ◌∙◌, Some, None, nat_eq, ap, sym, refl, false, List, Ok, Err}
use Rattle.std.specs.Borrow.{Bor}
use Rattle.tsa_base.specs.Tokens.{Lexeme}
use Rattle.tsa_grammar.proofs.Cases.{goes, chosen, other}
use Rattle.tsa_grammar.specs.Reading.{refuse, syntax}
use Rattle.tsa_tree.specs.declared.expr.Expr.{Expr}
use Rattle.tsa_tree.specs.declared.sign.Keyword.TheVariants as key
use Rattle.tsa_tree.specs.declared.sign.Sign.{Sign}
use Rattle.tsa_tree.specs.declared.sign.Sign.TheVariants as sign
use Rattle.tsa_tree.specs.expressions.Syntax.{Expression}
use Rattle.tsa_tree.specs.expressions.Shapes.{shape}
use Rattle.tsa_tree.specs.Reads.{read}
use Rattle.tsa_tree.specs.Rows.{an_expression, expression, a_close, a_colon, a_semicolon, a_keyword, mark, is_keyword}
use Rattle.tsa_tree.specs.tokens.Signs.{Aliases, sign_at}
use Rattle.tsa_expr.specs.declared.refusal.SyntaxRefusal.{SyntaxRefusal}
use Rattle.tsa_expr.specs.Gives.{Fails}
use Rattle.tsa_expr.proofs.Answering.{fails_then, fails_same, not_close}
use Rattle.tsa_decl_declarators.specs.Outcomes.{one_token, opening}
use Rattle.tsa_decl_declarators.proofs.TokenLaws.{not_semicolon}
use Rattle.tsa_unit_simple.specs.Outcomes.{test_at, value_or_none_at}

pub not_colon : (s : Sign) → s ≢ sign.Colon → nat_eq (mark s) 20 ≡ false
not_colon sign.Colon h = absurd (h refl)
not_colon _ h = refl

module _ (ts : List Lexeme) (aliases : Aliases) where
  pub close_wrong : (m : ℕ) → sign_at ts aliases m ≢ sign.Close → one_token ts (a_close aliases) m ≡ Err (refuse syntax m)
  unfolding one_token
  close_wrong m h = other _ _ _ (not_close (sign_at ts aliases m) h)

  pub close_goes : (m : ℕ) → sign_at ts aliases m ≡ sign.Close → one_token ts (a_close aliases) m ≡ Ok (tt, m + 1)
  unfolding one_token
  close_goes m e = chosen _ _ _ (ap (λ s. nat_eq (mark s) 7) e)

  pub colon_wrong : (m : ℕ) → sign_at ts aliases m ≢ sign.Colon → one_token ts (a_colon aliases) m ≡ Err (refuse syntax m)
  unfolding one_token
  colon_wrong m h = other _ _ _ (not_colon (sign_at ts aliases m) h)

  pub colon_goes : (m : ℕ) → sign_at ts aliases m ≡ sign.Colon → one_token ts (a_colon aliases) m ≡ Ok (tt, m + 1)
  unfolding one_token
  colon_goes m e = chosen _ _ _ (ap (λ s. nat_eq (mark s) 20) e)

  pub test_unopened : (d m : ℕ) (e : SyntaxRefusal) → Fails e (opening ts aliases d m) → Fails e (test_at ts aliases d m)
  unfolding test_at
  test_unopened d m e f = fails_then e _ _ f

  pub test_fails : (d m n : ℕ) (e : SyntaxRefusal) → opening ts aliases d m ≡ Ok (tt, n)
      → Fails e (read ts an_expression (expression aliases (d + 1) 0) n) → Fails e (test_at ts aliases d m)
  unfolding test_at
  test_fails d m n e o f = fails_same e _ _ (goes _ _ tt n o) (fails_then e _ _ f)

  pub test_unclosed : (d m n : ℕ) (x : Expression) (k : ℕ) (e : SyntaxRefusal) → opening ts aliases d m ≡ Ok (tt, n)
      → read ts an_expression (expression aliases (d + 1) 0) n ≡ Ok (x, k) → Fails e (one_token ts (a_close aliases) k)
      → Fails e (test_at ts aliases d m)
  unfolding test_at
  test_unclosed d m n x k e o r f = fails_same e _ _ (goes _ _ tt n o ∙ goes _ _ x k r) (fails_then e _ _ f)

  pub test_goes : (d m n : ℕ) (x : Expression) (k f : ℕ) (y : Expression) → opening ts aliases d m ≡ Ok (tt, n)
      → read ts an_expression (expression aliases (d + 1) 0) n ≡ Ok (x, k) → one_token ts (a_close aliases) k ≡ Ok (tt, f)
      → y ≡ x → test_at ts aliases d m ≡ Ok (y, f)
  unfolding test_at
  test_goes d m n x k f y o r c e = goes _ _ tt n o ∙ goes _ _ x k r ∙ goes _ _ tt f c ∙ ap (λ x. Ok (x, f)) (sym e)

  pub value_absent : (d m : ℕ) → sign_at ts aliases m ≡ sign.Semicolon → value_or_none_at ts aliases d m ≡ Ok (None, m + 1)
  unfolding value_or_none_at
  value_absent d m e = chosen _ _ _ (ap (λ s. nat_eq (mark s) 19) e)

  pub value_fails : (d m : ℕ) (e : SyntaxRefusal) → sign_at ts aliases m ≢ sign.Semicolon
      → Fails e (read ts an_expression (expression aliases d 0) m) → Fails e (value_or_none_at ts aliases d m)
  unfolding value_or_none_at
  value_fails d m e h f = fails_same e _ _ (other _ _ _ (not_semicolon (sign_at ts aliases m) h)) (fails_then e _ _ f)

  pub value_endless : (d m : ℕ) (x : Expression) (n : ℕ) (e : SyntaxRefusal) → sign_at ts aliases m ≢ sign.Semicolon
      → read ts an_expression (expression aliases d 0) m ≡ Ok (x, n) → Fails e (one_token ts (a_semicolon aliases) n)
      → Fails e (value_or_none_at ts aliases d m)
  unfolding value_or_none_at
  value_endless d m x n e h r f =
      fails_same e _ _ (other _ _ _ (not_semicolon (sign_at ts aliases m) h) ∙ goes _ _ x n r) (fails_then e _ _ f)

  pub value_goes : (d m : ℕ) (x : Expr) (n k : ℕ) (y : Bor Expr) → sign_at ts aliases m ≢ sign.Semicolon
      → read ts an_expression (expression aliases d 0) m ≡ Ok (shape x, n) → one_token ts (a_semicolon aliases) n ≡ Ok (tt, k)
      → y.now ≡ x → value_or_none_at ts aliases d m ≡ Ok (Some (shape y.now), k)
  unfolding value_or_none_at
  value_goes d m x n k y h r c e =
      other _ _ _ (not_semicolon (sign_at ts aliases m) h) ∙ goes _ _ (shape x) n r ∙ goes _ _ tt k c ∙ ap (λ x. Ok (Some (shape x), k)) (sym e)

  -- the word `while`
  pub while_goes : (m : ℕ) → sign_at ts aliases m ≡ sign.Keyword key.While → one_token ts (a_keyword aliases key.While) m ≡ Ok (tt, m + 1)
  unfolding one_token
  while_goes m e = chosen _ _ _ (ap (is_keyword key.While) e)

  pub while_wrong : (m : ℕ) → is_keyword key.While (sign_at ts aliases m) ≡ false → one_token ts (a_keyword aliases key.While) m ≡ Err (refuse syntax m)
  unfolding one_token
  while_wrong m e = other _ _ _ e

pub ruleset closings = (close_wrong, close_goes)

pub ruleset colons = (colon_wrong, colon_goes)

pub ruleset whiles = (while_goes, while_wrong)

pub ruleset tests = (test_unopened, test_fails, test_unclosed, test_goes)

pub ruleset values = (value_absent, value_fails, value_endless, value_goes)
