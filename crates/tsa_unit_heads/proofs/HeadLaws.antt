-- What stands before the bodies of statements.
use Rattle.std.proofs.Common.{ℕ, ◌+◌, ◌≡◌, ◌∙◌, Option, Some, true, ap, sym, subst, List, [], ◌∷◌, ◌++◌, length, map, option_map, Ok}
use Rattle.std.proofs.lemmas.List.{length-append, length-map}
use Rattle.std.specs.Borrow.{Bor}
use Rattle.tsa_base.specs.declared.token.Span.{Span}
use Rattle.tsa_base.specs.Tokens.{Lexeme}
use Rattle.tsa_grammar.proofs.Cases.{goes}
use Rattle.tsa_grammar.specs.Reading.{then}
use Rattle.tsa_tree.specs.declared.expr.Expr.{Expr}
use Rattle.tsa_tree.specs.declared.expr.Name.{Name}
use Rattle.tsa_tree.specs.declared.sign.Keyword.TheVariants as key
use Rattle.tsa_tree.specs.declared.sign.Sign.TheVariants as sign
use Rattle.tsa_tree.specs.declared.stmt.Action.TheVariants.{Test, Switch}
use Rattle.tsa_tree.specs.declared.stmt.Point.{Point}
use Rattle.tsa_tree.specs.declared.stmt.Stmt.{Stmt}
use Rattle.tsa_tree.specs.expressions.Syntax.{Expression}
use Rattle.tsa_tree.specs.points.Syntax.{switches, point_of_test, point_of_for, points_of_init, points_of_step, expression_span}
use Rattle.tsa_tree.specs.Reads.{read}
use Rattle.tsa_tree.specs.Rows.{an_expression, a_for_init, a_statement, expression, for_init, statement, a_colon, sees}
use Rattle.tsa_tree.specs.expressions.Shapes.{name_shape, shape}
use Rattle.tsa_tree.specs.tokens.Signs.{Aliases, sign_at, identifier_at, span_over}
use Rattle.tsa_tree.specs.statements.Syntax.{ForInit, case, label}
use Rattle.tsa_tree.specs.statements.Shapes.{point_shape}
use Rattle.tsa_expr.specs.declared.refusal.SyntaxRefusal.{SyntaxRefusal}
use Rattle.tsa_expr.specs.Gives.{Fails}
use Rattle.tsa_expr.proofs.Answering.{fails_then, fails_same}
use Rattle.tsa_expr.proofs.Places.{sign_within}
use Rattle.tsa_attr.proofs.Joining.{append-append}
use Rattle.tsa_decl_declarators.specs.Outcomes.{one_token, opening}
use Rattle.tsa_unit_heads.specs.declared.heads.Head.TheVariants as head
use Rattle.tsa_unit_heads.specs.declared.heads.Headed.{Headed}
use Rattle.tsa_unit_heads.specs.Heads.{ended_at, IsOpened}
use Rattle.tsa_unit_simple.specs.Outcomes.{test_at, value_or_none_at, step_at, body_at}
use Rattle.tsa_unit_simple.specs.PointNumbers.{IsStepAt, IsBegun, IsStepped}
use Rattle.tsa_unit_simple.specs.Readings.{init_seen, step_seen}
use Rattle.tsa_unit_heads.proofs.LeafRows.{label_is}
use Rattle.tsa_unit_simple.proofs.MarkLaws.{tested_point, spanned, one_more}
use Rattle.tsa_unit_simple.proofs.RowLaws.{while_is, switch_is, case_is, otherwise_is, for_is}

-- the points of tests and values
pub test_marked : (old new : List Point) (x : Bor Expr) → new ≡ old ++ record { action = Test (Some x); span = x.now.span } ∷ []
    → map point_shape new ≡ map point_shape old ++ point_of_test (shape x.now) ∷ []
test_marked old new x h =
    one_more old new (record { action = Test (Some x); span = x.now.span }) h ∙ ap (λ p. map point_shape old ++ p ∷ []) (tested_point x)

pub value_marked : (old new : List Point) (x : Bor Expr) (n : ℕ) → n ≡ length old → new ≡ old ++ record { action = Switch x; span = x.now.span } ∷ []
    → (map point_shape new ≡ map point_shape old ++ record { deed = switches (shape x.now); span = expression_span (shape x.now) } ∷ []) × (n ≡ length old)
value_marked old new x n e h = (
  one_more old new (record { action = Switch x; span = x.now.span }) h
      ∙ ap (λ s. map point_shape old ++ record { deed = switches (shape x.now); span = s } ∷ []) (sym (spanned x.now)),
  e,
)

module _ (ts : List Lexeme) (aliases : Aliases) where
  pub while_fails : (d m : ℕ) (e : SyntaxRefusal) → sign_at ts aliases m ≡ sign.Keyword key.While → Fails e (test_at ts aliases d (m + 1))
      → Fails e (read ts a_statement (statement aliases d) m)
  while_fails d m e s f = fails_same e _ _ (while_is ts aliases d m s) (fails_then e _ _ f)

  pub while_opens : (d m : ℕ) (x : Bor Expr) (n k : ℕ) → sign_at ts aliases m ≡ sign.Keyword key.While → test_at ts aliases d (m + 1) ≡ Ok (shape x.now, n)
      → read ts a_statement (statement aliases d) m ≡ ended_at ts aliases d m (head.While x k) n
  while_opens d m x n k s h = while_is ts aliases d m s ∙ goes _ _ (shape x.now) n h

  pub switch_fails : (d m : ℕ) (e : SyntaxRefusal) → sign_at ts aliases m ≡ sign.Keyword key.Switch → Fails e (test_at ts aliases d (m + 1))
      → Fails e (read ts a_statement (statement aliases d) m)
  switch_fails d m e s f = fails_same e _ _ (switch_is ts aliases d m s) (fails_then e _ _ f)

  pub switch_opens : (d m : ℕ) (x : Bor Expr) (n k : ℕ) → sign_at ts aliases m ≡ sign.Keyword key.Switch → test_at ts aliases d (m + 1) ≡ Ok (shape x.now, n)
      → read ts a_statement (statement aliases d) m ≡ ended_at ts aliases d m (head.Switch x k) n
  switch_opens d m x n k s h = switch_is ts aliases d m s ∙ goes _ _ (shape x.now) n h

  pub case_fails : (d m : ℕ) (e : SyntaxRefusal) → sign_at ts aliases m ≡ sign.Keyword key.Case
      → Fails e (read ts an_expression (expression aliases d 0) (m + 1)) → Fails e (read ts a_statement (statement aliases d) m)
  case_fails d m e s f = fails_same e _ _ (case_is ts aliases d m s) (fails_then e _ _ f)

  pub case_endless : (d m : ℕ) (x : Expression) (n : ℕ) (e : SyntaxRefusal) → sign_at ts aliases m ≡ sign.Keyword key.Case
      → read ts an_expression (expression aliases d 0) (m + 1) ≡ Ok (x, n) → Fails e (one_token ts (a_colon aliases) n)
      → Fails e (read ts a_statement (statement aliases d) m)
  case_endless d m x n e s h f = fails_same e _ _ (case_is ts aliases d m s ∙ goes _ _ x n h) (fails_then e _ _ f)

  pub case_opens : (d m : ℕ) (x : Expr) (n k : ℕ) (y : Bor Expr) → sign_at ts aliases m ≡ sign.Keyword key.Case
      → read ts an_expression (expression aliases d 0) (m + 1) ≡ Ok (shape x, n) → one_token ts (a_colon aliases) n ≡ Ok (tt, k) → y.now ≡ x
      → read ts a_statement (statement aliases d) m ≡ ended_at ts aliases d m (head.Case y) k
  case_opens d m x n k y s h o e =
      case_is ts aliases d m s ∙ goes _ _ (shape x) n h ∙ goes _ _ tt k o
      ∙ ap (λ x. then (body_at ts aliases d k) (λ b f. Ok (case (shape x) b (span_over ts m f), f))) (sym e)

  pub default_fails : (d m : ℕ) (e : SyntaxRefusal) → sign_at ts aliases m ≡ sign.Keyword key.Default → Fails e (one_token ts (a_colon aliases) (m + 1))
      → Fails e (read ts a_statement (statement aliases d) m)
  default_fails d m e s f = fails_same e _ _ (otherwise_is ts aliases d m s) (fails_then e _ _ f)

  pub default_opens : (d m k : ℕ) → sign_at ts aliases m ≡ sign.Keyword key.Default → one_token ts (a_colon aliases) (m + 1) ≡ Ok (tt, k)
      → read ts a_statement (statement aliases d) m ≡ ended_at ts aliases d m head.Otherwise k
  default_opens d m k s o = otherwise_is ts aliases d m s ∙ goes _ _ tt k o

  pub label_opens : (d m : ℕ) (x : Name) → sign_at ts aliases m ≡ sign.Name → sees ts (a_colon aliases) (m + 1) ≡ true → name_shape x ≡ identifier_at ts m
      → read ts a_statement (statement aliases d) m ≡ ended_at ts aliases d m (head.Label x) (m + 1 + 1)
  label_opens d m x s c h =
      label_is ts aliases d m s c ∙ ap (λ x. then (body_at ts aliases d (m + 1 + 1)) (λ b e. Ok (label x b (span_over ts m e), e))) (sym h)

  pub for_unopened : (d m : ℕ) (e : SyntaxRefusal) → sign_at ts aliases m ≡ sign.Keyword key.For → Fails e (opening ts aliases d (m + 1))
      → Fails e (read ts a_statement (statement aliases d) m)
  for_unopened d m e s f = fails_same e _ _ (for_is ts aliases d m s) (fails_then e _ _ f)

  pub for_initless : (d m n : ℕ) (e : SyntaxRefusal) → sign_at ts aliases m ≡ sign.Keyword key.For → opening ts aliases d (m + 1) ≡ Ok (tt, n)
      → Fails e (read ts a_for_init (for_init aliases (d + 1)) n) → Fails e (read ts a_statement (statement aliases d) m)
  for_initless d m n e s o f = fails_same e _ _ (for_is ts aliases d m s ∙ goes _ _ tt n o) (fails_then e _ _ f)

  pub for_testless : (d m n : ℕ) (i : ForInit) (k : ℕ) (e : SyntaxRefusal) → sign_at ts aliases m ≡ sign.Keyword key.For
      → opening ts aliases d (m + 1) ≡ Ok (tt, n) → read ts a_for_init (for_init aliases (d + 1)) n ≡ Ok (i, k)
      → Fails e (value_or_none_at ts aliases (d + 1) k) → Fails e (read ts a_statement (statement aliases d) m)
  for_testless d m n i k e s o a f = fails_same e _ _ (for_is ts aliases d m s ∙ goes _ _ tt n o ∙ goes _ _ i k a) (fails_then e _ _ f)

  pub for_stepless : (d m n : ℕ) (i : ForInit) (k : ℕ) (x : Option Expression) (j : ℕ) (e : SyntaxRefusal) → sign_at ts aliases m ≡ sign.Keyword key.For
      → opening ts aliases d (m + 1) ≡ Ok (tt, n) → read ts a_for_init (for_init aliases (d + 1)) n ≡ Ok (i, k)
      → value_or_none_at ts aliases (d + 1) k ≡ Ok (x, j) → Fails e (step_at ts aliases (d + 1) j)
      → Fails e (read ts a_statement (statement aliases d) m)
  for_stepless d m n i k x j e s o a b f =
      fails_same e _ _ (for_is ts aliases d m s ∙ goes _ _ tt n o ∙ goes _ _ i k a ∙ goes _ _ x j b) (fails_then e _ _ f)

  pub for_opens : (d m n : ℕ) (i : Option (Bor Stmt)) (k : ℕ) (x : Option (Bor Expr)) (j : ℕ) (c : Option (Bor Stmt)) (l number : ℕ)
      → sign_at ts aliases m ≡ sign.Keyword key.For → opening ts aliases d (m + 1) ≡ Ok (tt, n)
      → read ts a_for_init (for_init aliases (d + 1)) n ≡ Ok (init_seen i, k) → value_or_none_at ts aliases (d + 1) k ≡ Ok (option_map (λ x. shape x.now) x, j)
      → step_at ts aliases (d + 1) j ≡ Ok (step_seen c, l)
      → read ts a_statement (statement aliases d) m ≡ ended_at ts aliases d m (head.For i x number c) l
  for_opens d m n i k x j c l number s o a b f =
      for_is ts aliases d m s ∙ goes _ _ tt n o ∙ goes _ _ (init_seen i) k a ∙ goes _ _ (option_map (λ x. shape x.now) x) j b ∙ goes _ _ (step_seen c) l f

-- the points of a `for` up to its body
for_pointed : (word : Span) (old begun marked new : List Point) (i : Option (Bor Stmt)) (x : Option (Bor Expr)) (number : ℕ) (c : Option (Bor Stmt))
    → IsBegun old begun i → number ≡ length begun
    → map point_shape marked ≡ map point_shape begun ++ point_of_for word (option_map (λ x. shape x.now) x) ∷ []
    → IsStepped marked new c → IsOpened word old new (head.For i x number c)
for_pointed word old begun marked new i x number c a q b f = (
  f.0 ∙ ap (λ ps. ps ++ points_of_step (step_seen c)) b
      ∙ append-append (map point_shape begun) (point_of_for word (option_map (λ x. shape x.now) x) ∷ []) (points_of_step (step_seen c))
      ∙ ap (λ ps. ps ++ point_of_for word (option_map (λ x. shape x.now) x) ∷ points_of_step (step_seen c)) a.0
      ∙ append-append (map point_shape old) (points_of_init (init_seen i)) (point_of_for word (option_map (λ x. shape x.now) x) ∷ points_of_step (step_seen c)),
  a.1,
  q ∙ sym (length-map begun point_shape) ∙ ap length a.0 ∙ length-append (map point_shape old) (points_of_init (init_seen i))
      ∙ ap (λ n. n + length (points_of_init (init_seen i))) (length-map old point_shape),
  subst (IsStepAt c) (grown ∙ ap (λ n. n + 1) (sym q)) f.1,
)
  where
    grown : length marked ≡ length begun + 1
    grown =
        sym (length-map marked point_shape) ∙ ap length b ∙ length-append (map point_shape begun) (point_of_for word (option_map (λ x. shape x.now) x) ∷ [])
        ∙ ap (λ n. n + 1) (length-map begun point_shape)

pub for_opened : (word : Span) (old begun marked new : List Point) (i : Option (Bor Stmt)) (x : Option (Bor Expr)) (number : ℕ) (c : Option (Bor Stmt)) (l : ℕ)
    (r : Headed) → r ≡ record { head = head.For i x number c; next = l } → IsBegun old begun i → number ≡ length begun
    → map point_shape marked ≡ map point_shape begun ++ point_of_for word (option_map (λ x. shape x.now) x) ∷ []
    → IsStepped marked new c → IsOpened word old new r.head
for_opened word old begun marked new i x number c l r e a q b f =
    subst (λ r. IsOpened word old new r.head) (sym e) (for_pointed word old begun marked new i x number c a q b f)

pub ruleset tests = (test_marked)

pub ruleset whiles = (while_fails, while_opens, sign_within)

pub ruleset values = (switch_fails, switch_opens, value_marked, sign_within)

pub ruleset fors = (for_unopened, for_initless, for_testless, for_stepless, for_opens, sign_within)

pub ruleset cases = (case_fails, case_endless, case_opens, sign_within)

pub ruleset defaults = (default_fails, default_opens, sign_within)
