-- Operands by their first tokens.
use Rattle.std.proofs.Common.{ℕ, ◌+◌, ◌<◌, ◌≤◌, ◌≡◌, ◌≢◌, ◌∙◌, ap, sym, refl, true, List, Option, Some, None, Ok, Err, nat_eq}
use Rattle.tsa_base.specs.Tokens.{Lexeme}
use Rattle.tsa_grammar.proofs.Cases.{chosen, other, goes}
use Rattle.tsa_grammar.specs.Form.{done, token}
use Rattle.tsa_grammar.specs.Reading.{Outcome, refuse, syntax, deep, then, choose, follow}
use Rattle.tsa_tree.proofs.RowsRead.{read_steps}
use Rattle.tsa_tree.specs.declared.expr.UnaryOp.{UnaryOp}
use Rattle.tsa_tree.specs.declared.sign.Sign.{Sign}
use Rattle.tsa_tree.specs.declared.sign.Sign.TheVariants as sign
use Rattle.tsa_tree.specs.expressions.Answers.{below_limit}
use Rattle.tsa_tree.specs.expressions.Syntax.{Expression, Arguments, number, null, named, call, unary, none}
use Rattle.tsa_tree.specs.Reads.{read, read_behind}
use Rattle.tsa_tree.specs.Rows.{an_expression, some_arguments, expression, operand, series, sees, mark, Kind, Row, a_not, a_flip}
use Rattle.tsa_tree.specs.Rows.{an_operator, a_close, operand_row, prefix_row, call_row, post}
use Rattle.tsa_tree.specs.tokens.Signs.{Aliases, sign_at, span_at, span_over, identifier_at, value_at, unsigned_at, prefix, prefix_of}
use Rattle.tsa_expr.specs.declared.refusal.SyntaxRefusal.{SyntaxRefusal}
use Rattle.tsa_expr.specs.Gives.{Fails}
use Rattle.tsa_expr.proofs.Answering.{fails_then, fails_same, gives_same, in_limit, over_limit, not_open, not_close}
use Rattle.tsa_expr.proofs.Places.{sign_within, read_ends}

module _ (ts : List Lexeme) (aliases : Aliases) where
  abbrev going : Row an_expression → ℕ → Outcome Expression
  going f m = follow (sees ts) below_limit (read ts) an_expression f m

  at_sign : (d m : ℕ) (s : Sign) → sign_at ts aliases m ≡ s → read ts an_expression (operand aliases d) m ≡ going (operand_row ts aliases d m s) m
  at_sign d m s e = read_steps ts an_expression (operand aliases d) m ∙ ap (λ s. going (operand_row ts aliases d m s) m) e

  -- prefix operators
  abbrev prefixing : (d m : ℕ) → UnaryOp → Outcome Expression
  prefixing d m op =
      choose (below_limit d)
      (then (read ts an_expression (operand aliases (d + 1)) (m + 1)) (λ x n. Ok (unary op x (span_over ts m n), n)))
      (Err (refuse deep m))

  prefix_there : (d m : ℕ) (q : Kind) (o : Option UnaryOp) (op : UnaryOp) → o ≡ Some op → sees ts q m ≡ true
      → going (prefix_row ts aliases d m q o) m ≡ prefixing d m op
  prefix_there d m q o op e s =
      ap (λ o. going (prefix_row ts aliases d m q o) m) e ∙ ap (λ r. choose (below_limit d) r (Err (refuse deep m))) (chosen _ _ _ s)

  prefix_sign : (d m : ℕ) (op : UnaryOp) (s : Sign) → sign_at ts aliases m ≡ s → prefix s ≡ Some op → going (operand_row ts aliases d m s) m ≡ prefixing d m op
  prefix_sign d m op sign.Not t e = prefix_there d m (a_not aliases) (prefix sign.Not) op e (ap (λ s. nat_eq (mark s) 13) t)
  prefix_sign d m op sign.Flip t e = prefix_there d m (a_flip aliases) (prefix sign.Flip) op e (ap (λ s. nat_eq (mark s) 14) t)
  prefix_sign d m op (sign.Operator o) t e = prefix_there d m (an_operator aliases) (prefix_of o) op e (ap (λ s. nat_eq (mark s) 15) t)
  prefix_sign d m op _ t e = cc

  prefix_at : (d m : ℕ) (op : UnaryOp) → prefix (sign_at ts aliases m) ≡ Some op → read ts an_expression (operand aliases d) m ≡ prefixing d m op
  prefix_at d m op e = at_sign d m (sign_at ts aliases m) refl ∙ prefix_sign d m op (sign_at ts aliases m) refl e

  pub prefix_deep : (d m : ℕ) (op : UnaryOp) → prefix (sign_at ts aliases m) ≡ Some op → 100 ≤ d → read ts an_expression (operand aliases d) m ≡ Err (refuse deep m)
  prefix_deep d m op e h = prefix_at d m op e ∙ other _ _ _ (over_limit d h)

  pub prefix_fails : (d m : ℕ) (op : UnaryOp) (e : SyntaxRefusal) → prefix (sign_at ts aliases m) ≡ Some op → d < 100
      → Fails e (read ts an_expression (operand aliases (d + 1)) (m + 1)) → Fails e (read ts an_expression (operand aliases d) m)
  prefix_fails d m op e s h f = fails_same e _ _ (prefix_at d m op s ∙ chosen _ _ _ (in_limit d h)) (fails_then e _ _ f)

  pub prefix_reads : (d m : ℕ) (op : UnaryOp) (x : Expression) (n : ℕ) → prefix (sign_at ts aliases m) ≡ Some op → d < 100
      → read ts an_expression (operand aliases (d + 1)) (m + 1) ≡ Ok (x, n) → read ts an_expression (operand aliases d) m ≡ Ok (unary op x (span_over ts m n), n)
  prefix_reads d m op x n s h e = prefix_at d m op s ∙ chosen _ _ _ (in_limit d h) ∙ goes _ _ x n e

  -- primaries
  pub number_leads : (d m : ℕ) → sign.Number ≡ sign_at ts aliases m
      → read ts an_expression (operand aliases d) m ≡ read_behind ts aliases d m (number (value_at ts m) (unsigned_at ts m) (span_at ts m)) (m + 1)
  unfolding read_behind
  number_leads d m e = at_sign d m sign.Number (sym e) ∙ chosen _ _ _ (ap (λ s. nat_eq (mark s) 4) (sym e))

  pub null_leads : (d m : ℕ) → sign.Null ≡ sign_at ts aliases m → read ts an_expression (operand aliases d) m ≡ read_behind ts aliases d m (null (span_at ts m)) (m + 1)
  unfolding read_behind
  null_leads d m e = at_sign d m sign.Null (sym e) ∙ chosen _ _ _ (ap (λ s. nat_eq (mark s) 5) (sym e))

  wrong_prefix : (d m : ℕ) (q : Kind) (o : Option UnaryOp) → o ≡ None → going (prefix_row ts aliases d m q o) m ≡ Err (refuse syntax m)
  wrong_prefix d m q o e = ap (λ o. going (prefix_row ts aliases d m q o) m) e ∙ other _ _ _ refl

  wrong_sign : (d m : ℕ) (s : Sign) → prefix s ≡ None → s ≢ sign.Number → s ≢ sign.Null → s ≢ sign.Name → s ≢ sign.Open
      → going (operand_row ts aliases d m s) m ≡ Err (refuse syntax m)
  wrong_sign d m sign.Number p a b c e = absurd (a refl)
  wrong_sign d m sign.Null p a b c e = absurd (b refl)
  wrong_sign d m sign.Name p a b c e = absurd (c refl)
  wrong_sign d m sign.Open p a b c e = absurd (e refl)
  wrong_sign d m sign.Not p a b c e = cc
  wrong_sign d m sign.Flip p a b c e = cc
  wrong_sign d m (sign.Operator o) p a b c e = wrong_prefix d m (an_operator aliases) (prefix_of o) p
  wrong_sign d m _ p a b c e = other _ _ _ refl

  pub wrong_fails : (d m : ℕ) (s : Sign) → s ≡ sign_at ts aliases m → prefix s ≡ None → s ≢ sign.Number → s ≢ sign.Null → s ≢ sign.Name → s ≢ sign.Open
      → read ts an_expression (operand aliases d) m ≡ Err (refuse syntax m)
  wrong_fails d m s t p a b c e = at_sign d m s (sym t) ∙ wrong_sign d m s p a b c e

  pub paren_deep : (d m : ℕ) → sign.Open ≡ sign_at ts aliases m → 100 ≤ d → read ts an_expression (operand aliases d) m ≡ Err (refuse deep m)
  paren_deep d m e h = at_sign d m sign.Open (sym e) ∙ other _ _ _ (over_limit d h)

  paren_at : (d m : ℕ) → sign.Open ≡ sign_at ts aliases m → d < 100
      → read ts an_expression (operand aliases d) m ≡ then (read ts an_expression (expression aliases (d + 1) 0) (m + 1)) (λ x n. going (token (a_close aliases) (post ts aliases d m x (n + 1) (λ x e. done x))) n)
  paren_at d m e h = at_sign d m sign.Open (sym e) ∙ chosen _ _ _ (in_limit d h) ∙ chosen _ _ _ (ap (λ s. nat_eq (mark s) 6) (sym e))

  pub paren_fails : (d m : ℕ) (e : SyntaxRefusal) → sign.Open ≡ sign_at ts aliases m → d < 100
      → Fails e (read ts an_expression (expression aliases (d + 1) 0) (m + 1)) → Fails e (read ts an_expression (operand aliases d) m)
  paren_fails d m e s h f = fails_same e _ _ (paren_at d m s h) (fails_then e _ _ f)

  pub paren_unclosed : (d m : ℕ) (x : Expression) (n : ℕ) → sign.Open ≡ sign_at ts aliases m → d < 100 → read ts an_expression (expression aliases (d + 1) 0) (m + 1) ≡ Ok (x, n)
      → sign_at ts aliases n ≢ sign.Close → read ts an_expression (operand aliases d) m ≡ Err (refuse syntax n)
  paren_unclosed d m x n s h e c = paren_at d m s h ∙ goes _ _ x n e ∙ other _ _ _ (not_close (sign_at ts aliases n) c)

  pub paren_leads : (d m : ℕ) (x : Expression) (n : ℕ) → sign.Open ≡ sign_at ts aliases m → d < 100 → read ts an_expression (expression aliases (d + 1) 0) (m + 1) ≡ Ok (x, n)
      → sign_at ts aliases n ≡ sign.Close → read ts an_expression (operand aliases d) m ≡ read_behind ts aliases d m x (n + 1)
  unfolding read_behind
  paren_leads d m x n s h e c = paren_at d m s h ∙ goes _ _ x n e ∙ chosen _ _ _ (ap (λ s. nat_eq (mark s) 7) c)

  -- names and calls
  pub name_leads : (d m : ℕ) → sign_at ts aliases m ≡ sign.Name → sign_at ts aliases (m + 1) ≢ sign.Open
      → read ts an_expression (operand aliases d) m ≡ read_behind ts aliases d m (named (identifier_at ts m) (span_at ts m)) (m + 1)
  unfolding read_behind
  name_leads d m e o =
      at_sign d m sign.Name e ∙ chosen _ _ _ (ap (λ s. nat_eq (mark s) 3) e) ∙ other _ _ _ (not_open (sign_at ts aliases (m + 1)) o)

  pub call_deep : (d m : ℕ) → sign_at ts aliases m ≡ sign.Name → sign_at ts aliases (m + 1) ≡ sign.Open → 100 ≤ d
      → read ts an_expression (operand aliases d) m ≡ Err (refuse deep (m + 1))
  call_deep d m e o h =
      at_sign d m sign.Name e ∙ chosen _ _ _ (ap (λ s. nat_eq (mark s) 3) e) ∙ chosen _ _ _ (ap (λ s. nat_eq (mark s) 6) o)
      ∙ other _ _ _ (over_limit d h)

  call_at : (d m : ℕ) → sign_at ts aliases m ≡ sign.Name → sign_at ts aliases (m + 1) ≡ sign.Open → d < 100
      → read ts an_expression (operand aliases d) m ≡ going (call_row ts aliases d m) (m + 1 + 1)
  call_at d m e o h =
      at_sign d m sign.Name e ∙ chosen _ _ _ (ap (λ s. nat_eq (mark s) 3) e) ∙ chosen _ _ _ (ap (λ s. nat_eq (mark s) 6) o)
      ∙ chosen _ _ _ (in_limit d h) ∙ chosen _ _ _ (ap (λ s. nat_eq (mark s) 6) o)

  pub call_none : (d m : ℕ) → sign_at ts aliases m ≡ sign.Name → sign_at ts aliases (m + 1) ≡ sign.Open → d < 100 → sign_at ts aliases (m + 1 + 1) ≡ sign.Close
      → read ts an_expression (operand aliases d) m ≡ read_behind ts aliases d m (call (identifier_at ts m) none (span_over ts m (m + 1 + 1 + 1))) (m + 1 + 1 + 1)
  unfolding read_behind
  call_none d m e o h c =
      call_at d m e o h ∙ chosen _ _ _ (ap (λ s. nat_eq (mark s) 7) c) ∙ chosen _ _ _ (ap (λ s. nat_eq (mark s) 7) c)

  call_some : (d m : ℕ) → sign_at ts aliases m ≡ sign.Name → sign_at ts aliases (m + 1) ≡ sign.Open → d < 100 → sign_at ts aliases (m + 1 + 1) ≢ sign.Close
      → read ts an_expression (operand aliases d) m ≡ then (read ts some_arguments (series aliases (d + 1)) (m + 1 + 1)) (λ xs n. going (post ts aliases d m (call (identifier_at ts m) xs (span_over ts m n)) n (λ x e. done x)) n)
  call_some d m e o h c = call_at d m e o h ∙ other _ _ _ (not_close (sign_at ts aliases (m + 1 + 1)) c)

  pub call_fails : (d m : ℕ) (e : SyntaxRefusal) → sign_at ts aliases m ≡ sign.Name → sign_at ts aliases (m + 1) ≡ sign.Open → d < 100 → sign_at ts aliases (m + 1 + 1) ≢ sign.Close
      → Fails e (read ts some_arguments (series aliases (d + 1)) (m + 1 + 1)) → Fails e (read ts an_expression (operand aliases d) m)
  call_fails d m e s o h c f = fails_same e _ _ (call_some d m s o h c) (fails_then e _ _ f)

  pub call_leads : (d m : ℕ) (xs : Arguments) (n : ℕ) → sign_at ts aliases m ≡ sign.Name → sign_at ts aliases (m + 1) ≡ sign.Open → d < 100 → sign_at ts aliases (m + 1 + 1) ≢ sign.Close
      → read ts some_arguments (series aliases (d + 1)) (m + 1 + 1) ≡ Ok (xs, n)
      → read ts an_expression (operand aliases d) m ≡ read_behind ts aliases d m (call (identifier_at ts m) xs (span_over ts m n)) n
  unfolding read_behind
  call_leads d m xs n s o h c e = call_some d m s o h c ∙ goes _ _ xs n e

pub ruleset operands = (prefix_deep, prefix_fails, prefix_reads, gives_same, read_ends)

pub ruleset primaries = (number_leads, null_leads, wrong_fails, paren_deep, paren_fails, paren_unclosed, paren_leads, sign_within)

pub ruleset names = (name_leads, call_deep, call_none, call_fails, call_leads, sign_within)
