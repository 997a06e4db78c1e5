-- Binary operators after a left operand.
use Rattle.std.proofs.Common.{ℕ, ◌+◌, ◌<◌, ◌≤◌, ◌≡◌, ◌∙◌, ap, sym, refl, List, Option, Some, None, Ok, Err, nat_eq}
use Rattle.tsa_base.specs.Tokens.{Lexeme}
use Rattle.tsa_grammar.proofs.Cases.{chosen, other, goes}
use Rattle.std.proofs.lemmas.Bool.{le-leb, lt-leb}
use Rattle.tsa_grammar.specs.Form.{done}
use Rattle.tsa_grammar.specs.Reading.{Outcome, refuse, deep, then, follow}
use Rattle.tsa_tree.proofs.RowsRead.{read_steps}
use Rattle.tsa_tree.specs.declared.expr.BinaryOp.{BinaryOp}
use Rattle.tsa_tree.specs.declared.sign.Sign.TheVariants as sign
use Rattle.tsa_tree.specs.expressions.Answers.{below_limit}
use Rattle.tsa_tree.specs.expressions.Syntax.{Expression, binary, height}
use Rattle.tsa_tree.specs.Reads.{read, read_on}
use Rattle.tsa_tree.specs.Rows.{an_expression, expression, operand, operation, sees, mark, Row, climb, climb_on, operation_row, tightest}
use Rattle.tsa_tree.specs.tokens.Signs.{Aliases, sign_at, span_over, operator, level}
use Rattle.tsa_expr.specs.declared.refusal.SyntaxRefusal.{SyntaxRefusal}
use Rattle.tsa_expr.specs.Gives.{Fails}
use Rattle.tsa_expr.proofs.Answering.{fails_then, fails_same, gives_same, then_done, in_limit, over_limit}
use Rattle.tsa_expr.proofs.Places.{sign_within, read_ends}

module _ (ts : List Lexeme) (aliases : Aliases) where
  abbrev going : Row an_expression → ℕ → Outcome Expression
  going f m = follow (sees ts) below_limit (read ts) an_expression f m

  -- a reader doesn't look at how tight the operator before was
  climb-top : (d k top top' start : ℕ) (l : Expression) (m : ℕ) (o : Option BinaryOp)
      → going (climb_on ts aliases d k top start l m (λ x e. done x) o) m ≡ going (climb_on ts aliases d k top' start l m (λ x e. done x) o) m
  climb-top d k top top' start l m None = refl
  climb-top d k top top' start l m (Some op) = refl

  on_at : (d k start : ℕ) (l : Expression) (m : ℕ) (o : Option BinaryOp) → operator (sign_at ts aliases m) ≡ o
      → read_on ts aliases d k start l m ≡ going (climb_on ts aliases d k tightest start l m (λ x e. done x) o) m
  unfolding read_on
  on_at d k start l m o e = ap (λ o. going (climb_on ts aliases d k tightest start l m (λ x e. done x) o) m) e

  pub operation_none : (d k start : ℕ) (l : Expression) (m : ℕ) → operator (sign_at ts aliases m) ≡ None → read_on ts aliases d k start l m ≡ Ok (l, m)
  operation_none d k start l m e = on_at d k start l m None e

  pub operation_loose : (d k start : ℕ) (l : Expression) (m : ℕ) (op : BinaryOp) → sign_at ts aliases m ≡ sign.Operator op → level op < k
      → read_on ts aliases d k start l m ≡ Ok (l, m)
  operation_loose d k start l m op e h = on_at d k start l m (Some op) (ap operator e) ∙ other _ _ _ (lt-leb k (level op) h)

  operation_tight : (d k start : ℕ) (l : Expression) (m : ℕ) (op : BinaryOp) → sign_at ts aliases m ≡ sign.Operator op → k ≤ level op
      → read_on ts aliases d k start l m ≡ going (operation_row ts aliases d k start l m (Some op)) m
  operation_tight d k start l m op e h =
      on_at d k start l m (Some op) (ap operator e) ∙ chosen _ _ _ (le-leb k (level op) h) ∙ then_done _
      ∙ read_steps ts an_expression (operation aliases d k start l) m
      ∙ ap (λ s. going (operation_row ts aliases d k start l m (operator s)) m) e

  pub operation_high : (d k start : ℕ) (l : Expression) (m : ℕ) (op : BinaryOp) → sign_at ts aliases m ≡ sign.Operator op → k ≤ level op → 100 ≤ height l
      → read_on ts aliases d k start l m ≡ Err (refuse deep m)
  operation_high d k start l m op e h high =
      operation_tight d k start l m op e h ∙ chosen _ _ _ (le-leb k (level op) h) ∙ other _ _ _ (over_limit (height l) high)

  operation_right : (d k start : ℕ) (l : Expression) (m : ℕ) (op : BinaryOp) → sign_at ts aliases m ≡ sign.Operator op → k ≤ level op → height l < 100
      → read_on ts aliases d k start l m ≡ then (read ts an_expression (expression aliases d (level op + 1)) (m + 1)) (λ r n. going (climb ts aliases d k (level op) start (binary op l r (span_over ts start n)) n (λ x e. done x)) n)
  operation_right d k start l m op e h low =
      operation_tight d k start l m op e h ∙ chosen _ _ _ (le-leb k (level op) h) ∙ chosen _ _ _ (in_limit (height l) low)
      ∙ chosen _ _ _ (ap (λ s. nat_eq (mark s) 15) e)

  pub operation_fails : (d k start : ℕ) (l : Expression) (m : ℕ) (op : BinaryOp) (e : SyntaxRefusal) → sign_at ts aliases m ≡ sign.Operator op → k ≤ level op → height l < 100
      → Fails e (read ts an_expression (expression aliases d (level op + 1)) (m + 1)) → Fails e (read_on ts aliases d k start l m)
  operation_fails d k start l m op e s h low f = fails_same e _ _ (operation_right d k start l m op s h low) (fails_then e _ _ f)

  pub operation_joins : (d k start : ℕ) (l : Expression) (m : ℕ) (op : BinaryOp) (r : Expression) (n : ℕ) → sign_at ts aliases m ≡ sign.Operator op → k ≤ level op → height l < 100
      → read ts an_expression (expression aliases d (level op + 1)) (m + 1) ≡ Ok (r, n)
      → read_on ts aliases d k start l m ≡ read_on ts aliases d k start (binary op l r (span_over ts start n)) n
  operation_joins d k start l m op r n s h low e =
      let whole = binary op l r (span_over ts start n) in
      operation_right d k start l m op s h low ∙ goes _ _ r n e
      ∙ climb-top d k (level op) tightest start whole n (operator (sign_at ts aliases n))
      ∙ sym (on_at d k start whole n (operator (sign_at ts aliases n)) refl)

  pub expression_fails : (d k m : ℕ) (e : SyntaxRefusal) → Fails e (read ts an_expression (operand aliases d) m) → Fails e (read ts an_expression (expression aliases d k) m)
  expression_fails d k m e h = fails_same e _ _ (read_steps ts an_expression (expression aliases d k) m) (fails_then e _ _ h)

  pub expression_goes : (d k m : ℕ) (x : Expression) (n : ℕ) → read ts an_expression (operand aliases d) m ≡ Ok (x, n)
      → read ts an_expression (expression aliases d k) m ≡ read_on ts aliases d k m x n
  unfolding read_on
  expression_goes d k m x n e = read_steps ts an_expression (expression aliases d k) m ∙ goes _ _ x n e

pub ruleset expressions = (expression_fails, expression_goes, gives_same, read_ends)

pub ruleset operations = (sign_within, operation_none, operation_loose, operation_high, operation_fails, operation_joins, fails_same, gives_same)
