-- What was read by the rows is what the grammar asks for.
use Rattle.std.proofs.Common.{ℕ, ◌≡◌, subst, List, Ok, Err, Result}
use Rattle.tsa_base.specs.Tokens.{Lexeme}
use Rattle.tsa_tree.specs.tokens.Signs.{Aliases}
use Rattle.tsa_tree.specs.expressions.Syntax.{Expression}
use Rattle.tsa_tree.specs.Rows as rows
use Rattle.tsa_tree.specs.Rows.{expression, operand}
use Rattle.tsa_tree.specs.Reads.{read}
use Rattle.tsa_tree.specs.expressions.Answers.{an_expression, a_unary, IsLongest, IsBroken, IsTooDeep, IsAnswer}
use Rattle.tsa_tree.proofs.expressions.Answers.{read_answers}
use Rattle.tsa_expr.specs.declared.refusal.SyntaxRefusal.{SyntaxRefusal}
use Rattle.tsa_expr.specs.declared.refusal.SyntaxRefusal.TheVariants.{At, Function, NoMemory}
use Rattle.tsa_expr.specs.declared.refusal.SyntaxCode.TheVariants.{SY1, AT1, AT2, LM2, LM3, LM5}
use Rattle.tsa_expr.specs.Gives.{Fails, IsOfExpressions}
use Rattle.tsa_grammar.specs.Reading.{Outcome, refuse, syntax, deep}

same_refusal : {X : Type 0} (e f : SyntaxRefusal) → (let r : Result X SyntaxRefusal = Err e in r) ≡ Err f → e ≡ f
same_refusal e f h = cc

pub broken_by : {X Y : Type 0} (e : SyntaxRefusal) (r : Outcome Y) (token : ℕ) → Fails e r
    → (let s : Result X SyntaxRefusal = Err e in s) ≡ Err (At SY1 token) → r ≡ Err (refuse syntax token)
broken_by e r token f h = subst (λ e. Fails e r) (same_refusal e (At SY1 token) h) f

pub deep_by : {X Y : Type 0} (e : SyntaxRefusal) (r : Outcome Y) (token : ℕ) → Fails e r
    → (let s : Result X SyntaxRefusal = Err e in s) ≡ Err (At LM2 token) → r ≡ Err (refuse deep token)
deep_by e r token f h = subst (λ e. Fails e r) (same_refusal e (At LM2 token) h) f

module _ (tokens : List Lexeme) (aliases : Aliases) (depth at : ℕ) where
  pub expression_found : (t : Expression) (e : ℕ) → read tokens rows.an_expression (expression aliases depth 0) at ≡ Ok (t, e)
      → IsLongest tokens aliases an_expression depth at t e
  expression_found t e h = subst (IsAnswer tokens aliases an_expression depth at) h (read_answers tokens aliases an_expression depth at)

  pub expression_broken : (i : ℕ) → read tokens rows.an_expression (expression aliases depth 0) at ≡ Err (refuse syntax i)
      → IsBroken tokens aliases an_expression depth at i
  expression_broken i h = subst (IsAnswer tokens aliases an_expression depth at) h (read_answers tokens aliases an_expression depth at)

  pub expression_deep : (i : ℕ) → read tokens rows.an_expression (expression aliases depth 0) at ≡ Err (refuse deep i)
      → IsTooDeep tokens aliases an_expression depth at i
  expression_deep i h = subst (IsAnswer tokens aliases an_expression depth at) h (read_answers tokens aliases an_expression depth at)

  pub unary_found : (t : Expression) (e : ℕ) → read tokens rows.an_expression (operand aliases depth) at ≡ Ok (t, e)
      → IsLongest tokens aliases a_unary depth at t e
  unary_found t e h = subst (IsAnswer tokens aliases a_unary depth at) h (read_answers tokens aliases a_unary depth at)

  pub unary_broken : (i : ℕ) → read tokens rows.an_expression (operand aliases depth) at ≡ Err (refuse syntax i)
      → IsBroken tokens aliases a_unary depth at i
  unary_broken i h = subst (IsAnswer tokens aliases a_unary depth at) h (read_answers tokens aliases a_unary depth at)

  pub unary_deep : (i : ℕ) → read tokens rows.an_expression (operand aliases depth) at ≡ Err (refuse deep i)
      → IsTooDeep tokens aliases a_unary depth at i
  unary_deep i h = subst (IsAnswer tokens aliases a_unary depth at) h (read_answers tokens aliases a_unary depth at)

  pub expression_no_other : (e : SyntaxRefusal) → Fails e (read tokens rows.an_expression (expression aliases depth 0) at) → IsOfExpressions e
  expression_no_other (At SY1 token) h = tt
  expression_no_other (At LM2 token) h = tt
  expression_no_other (At AT1 token) h = subst (IsAnswer tokens aliases an_expression depth at) h (read_answers tokens aliases an_expression depth at)
  expression_no_other (At AT2 token) h = subst (IsAnswer tokens aliases an_expression depth at) h (read_answers tokens aliases an_expression depth at)
  expression_no_other (At LM3 token) h = h
  expression_no_other (At LM5 token) h = h
  expression_no_other (Function code span) h = h
  expression_no_other NoMemory h = tt

  pub unary_no_other : (e : SyntaxRefusal) → Fails e (read tokens rows.an_expression (operand aliases depth) at) → IsOfExpressions e
  unary_no_other (At SY1 token) h = tt
  unary_no_other (At LM2 token) h = tt
  unary_no_other (At AT1 token) h = subst (IsAnswer tokens aliases a_unary depth at) h (read_answers tokens aliases a_unary depth at)
  unary_no_other (At AT2 token) h = subst (IsAnswer tokens aliases a_unary depth at) h (read_answers tokens aliases a_unary depth at)
  unary_no_other (At LM3 token) h = h
  unary_no_other (At LM5 token) h = h
  unary_no_other (Function code span) h = h
  unary_no_other NoMemory h = tt
