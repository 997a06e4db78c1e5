-- Statements by their rows, one for each first sign.
use Rattle.std.proofs.Common.{ℕ, ◌+◌, ◌≡◌, ◌∙◌, Bool, true, false, Option, Some, None, ap, sym, refl, List, Ok, Err}
use Rattle.tsa_base.specs.Tokens.{Lexeme}
use Rattle.tsa_grammar.proofs.Cases.{chosen}
use Rattle.tsa_grammar.specs.Reading.{Outcome, refuse, syntax, deep, then, choose, follow}
use Rattle.tsa_tree.proofs.RowsRead.{read_steps}
use Rattle.tsa_tree.specs.declared.sign.Keyword.{Keyword}
use Rattle.tsa_tree.specs.declared.sign.Keyword.TheVariants as key
use Rattle.tsa_tree.specs.declared.sign.Sign.{Sign}
use Rattle.tsa_tree.specs.declared.sign.Sign.TheVariants as sign
use Rattle.tsa_tree.specs.expressions.Answers.{below_limit}
use Rattle.tsa_tree.specs.expressions.Syntax.{Expression}
use Rattle.tsa_tree.specs.Reads.{read}
use Rattle.tsa_tree.specs.Rows.{an_expression, a_simple, a_for_init, a_statement, some_statements, Kind, expression, simple, for_init}
use Rattle.tsa_tree.specs.Rows.{statement, statements, a_keyword, an_open, a_close, a_semicolon, a_colon, sees, is_keyword, Row, body, test}
use Rattle.tsa_tree.specs.Rows.{value_or_none, statement_row, for_end}
use Rattle.tsa_grammar.specs.Form.{done, token}
use Rattle.tsa_tree.specs.tokens.Signs.{Aliases, sign_at, span_over, begins_statement}
use Rattle.tsa_tree.specs.statements.Syntax.{ForInit, Statement, Statements, while_loop, do_loop, for_loop, switch, case, otherwise}
use Rattle.tsa_attr.proofs.Joining.{then-then, then-same, then-ok}
use Rattle.tsa_decl_declarators.specs.Outcomes.{one_token, opening}
use Rattle.tsa_unit_simple.specs.Outcomes.{simple_at, test_at, value_or_none_at, body_at, step_at}

-- a token that has to stand there, and the rest
pub token_law : {A : Type 0} (b : Bool) (m : ℕ) (x : ℕ → Outcome A)
    → choose b (x (m + 1)) (Err (refuse syntax m)) ≡ then (choose b (Ok (tt {0}, m + 1)) (Err (refuse syntax m))) (λ u n. x n)
unfolding choose then
token_law true m x = refl
token_law false m x = refl

-- a token that opens a construct, and the rest
pub opens_law : {A : Type 0} (b c : Bool) (m : ℕ) (x : ℕ → Outcome A) (y : Outcome A)
    → choose b (choose c (choose b (x (m + 1)) (Err (refuse syntax m))) (Err (refuse deep m))) (choose false y (Err (refuse syntax m)))
    ≡ then (choose b (choose c (Ok (tt {0}, m + 1)) (Err (refuse deep m))) (Err (refuse syntax m))) (λ u n. x n)
unfolding choose then
opens_law true true m x y = refl
opens_law true false m x y = refl
opens_law false c m x y = refl

body_law : {A B : Type 0} (b c : Bool) (m : ℕ) (r : Outcome A) (x : A → ℕ → Outcome B) (y : Outcome B)
    → choose b (choose c (then r x) (Err (refuse deep m))) (choose false y (Err (refuse syntax m)))
    ≡ then (choose b (choose c r (Err (refuse deep m))) (Err (refuse syntax m))) x
unfolding choose then
body_law true true m r x y = refl
body_law true false m r x y = refl
body_law false c m r x y = refl

-- one thing where a token stands, and else another
pub either_law : {A B : Type 0} (b : Bool) (m : ℕ) (p : A) (r : Outcome A) (x : A → ℕ → Outcome B)
    → choose b (choose b (x p (m + 1)) (Err (refuse syntax m))) (then r x) ≡ then (choose b (Ok (p, m + 1)) r) x
unfolding choose then
either_law true m p r x = refl
either_law false m p r x = refl

pub again : {A : Type 0} (b : Bool) (x y z : Outcome A) → choose b (choose b x y) z ≡ choose b x z
unfolding choose
again true x y z = refl
again false x y z = refl

module _ (ts : List Lexeme) (aliases : Aliases) where
  abbrev pub going : Row a_statement → ℕ → Outcome Statement
  going f m = follow (sees ts) below_limit (read ts) a_statement f m

  abbrev pub stmt : (d m : ℕ) → Outcome Statement
  stmt d m = read ts a_statement (statement aliases d) m

  abbrev pub stmts : (d m : ℕ) → Outcome Statements
  stmts d m = read ts some_statements (statements aliases d) m

  pub token_at : {A : Type 0} (k : Kind) (m : ℕ) (x : ℕ → Outcome A)
      → choose (sees ts k m) (x (m + 1)) (Err (refuse syntax m)) ≡ then (one_token ts k m) (λ u n. x n)
  unfolding one_token
  token_at k m x = token_law (sees ts k m) m x

  opening_is : {A : Type 0} (d m : ℕ) (x : ℕ → Outcome A) (y : Outcome A)
      → choose (sees ts (an_open aliases) m)
      (choose (below_limit d) (choose (sees ts (an_open aliases) m) (x (m + 1)) (Err (refuse syntax m))) (Err (refuse deep m)))
      (choose false y (Err (refuse syntax m)))
      ≡ then (opening ts aliases d m) (λ u n. x n)
  unfolding opening
  opening_is d m x y = opens_law (sees ts (an_open aliases) m) (below_limit d) m x y

  -- an expression in parentheses, and the rest
  pub test_is : (d m : ℕ) (end : Expression → ℕ → Row a_statement)
      → going (test ts aliases d m end) m ≡ then (test_at ts aliases d m) (λ x n. going (end x n) n)
  unfolding test_at
  test_is d m end =
      opening_is d m
      (λ m. then (read ts an_expression (expression aliases (d + 1) 0) m) (λ x n. choose (sees ts (a_close aliases) n) (going (end x (n + 1)) (n + 1)) (Err (refuse syntax n))))
      _
      ∙ then-same (opening ts aliases d m) _ _ (λ u n.
      then-same (read ts an_expression (expression aliases (d + 1) 0) n) _ _ (λ x e.
      token_at (a_close aliases) e (λ e. going (end x e) e)
      ∙ sym (then-then (one_token ts (a_close aliases) e) (λ u f. Ok (x, f)) (λ x n. going (end x n) n)
      ∙ then-same (one_token ts (a_close aliases) e) _ _ (λ u f. then-ok x f (λ x n. going (end x n) n))))
      ∙ sym (then-then (read ts an_expression (expression aliases (d + 1) 0) n) _ (λ x n. going (end x n) n)))
      ∙ sym (then-then (opening ts aliases d m) _ (λ x n. going (end x n) n))

  -- the body of a statement, and the rest
  pub body_is : (d m : ℕ) (end : Statement → ℕ → Row a_statement)
      → going (body ts aliases d m end) m ≡ then (body_at ts aliases d m) (λ x n. going (end x n) n)
  unfolding body_at
  body_is d m end = body_law (begins_statement (sign_at ts aliases m)) (below_limit d) m (stmt (d + 1) m) (λ x n. going (end x n) n) _

  -- an expression or nothing, its `;`, and the rest
  pub value_is : (d m : ℕ) (end : Option Expression → ℕ → Row a_statement)
      → going (value_or_none ts aliases d m end) m ≡ then (value_or_none_at ts aliases d m) (λ x n. going (end x n) n)
  unfolding value_or_none_at
  value_is d m end =
      ap (λ r. choose (sees ts (a_semicolon aliases) m) (choose (sees ts (a_semicolon aliases) m) (going (end None (m + 1)) (m + 1)) (Err (refuse syntax m))) r)
      (then-same (read ts an_expression (expression aliases d 0) m) _ _ (λ x n.
      token_at (a_semicolon aliases) n (λ e. going (end (Some x) e) e)
      ∙ sym (then-then (one_token ts (a_semicolon aliases) n) (λ u e. Ok (Some x, e)) (λ x n. going (end x n) n)
      ∙ then-same (one_token ts (a_semicolon aliases) n) _ _ (λ u e. then-ok (Some x) e (λ x n. going (end x n) n))))
      ∙ sym (then-then (read ts an_expression (expression aliases d 0) m) _ (λ x n. going (end x n) n)))
      ∙ either_law (sees ts (a_semicolon aliases) m) m None _ (λ x n. going (end x n) n)

  pub row_is : (d m : ℕ) (s : Sign) → sign_at ts aliases m ≡ s → stmt d m ≡ going (statement_row ts aliases d m s) m
  row_is d m s e = read_steps ts a_statement (statement aliases d) m ∙ ap (λ s. going (statement_row ts aliases d m s) m) e

  -- a keyword that stands there
  pub word_is : {A : Type 0} (k : Keyword) (m : ℕ) (x y : Outcome A) → sign_at ts aliases m ≡ sign.Keyword k → is_keyword k (sign.Keyword k) ≡ true
      → choose (sees ts (a_keyword aliases k) m) x y ≡ x
  word_is k m x y e q = chosen _ _ _ (ap (is_keyword k) e ∙ q)

  pub while_is : (d m : ℕ) → sign_at ts aliases m ≡ sign.Keyword key.While
      → stmt d m ≡ then (test_at ts aliases d (m + 1)) (λ x n. then (body_at ts aliases d n) (λ b e. Ok (while_loop x b (span_over ts m e), e)))
  while_is d m e =
      row_is d m _ e ∙ word_is key.While m _ _ e refl
      ∙ test_is d (m + 1) (λ x n. body ts aliases d n (λ b e. done (while_loop x b (span_over ts m e))))
      ∙ then-same (test_at ts aliases d (m + 1)) _ _ (λ x n. body_is d n (λ b e. done (while_loop x b (span_over ts m e))))

  pub switch_is : (d m : ℕ) → sign_at ts aliases m ≡ sign.Keyword key.Switch
      → stmt d m ≡ then (test_at ts aliases d (m + 1)) (λ x n. then (body_at ts aliases d n) (λ b e. Ok (switch x b (span_over ts m e), e)))
  switch_is d m e =
      row_is d m _ e ∙ word_is key.Switch m _ _ e refl
      ∙ test_is d (m + 1) (λ x n. body ts aliases d n (λ b e. done (switch x b (span_over ts m e))))
      ∙ then-same (test_at ts aliases d (m + 1)) _ _ (λ x n. body_is d n (λ b e. done (switch x b (span_over ts m e))))

  abbrev do_end : (m : ℕ) → Statement → Expression → ℕ → Row a_statement
  do_end m b x e = token (a_semicolon aliases) (done (do_loop b x (span_over ts m (e + 1))))

  pub do_is : (d m : ℕ) → sign_at ts aliases m ≡ sign.Keyword key.Do
      → stmt d m ≡ then (body_at ts aliases d (m + 1)) (λ b n. then (one_token ts (a_keyword aliases key.While) n) (λ u k.
      then (test_at ts aliases d k) (λ x e. then (one_token ts (a_semicolon aliases) e) (λ u f. Ok (do_loop b x (span_over ts m f), f)))))
  do_is d m e =
      row_is d m _ e ∙ word_is key.Do m _ _ e refl
      ∙ body_is d (m + 1) (λ b n. token (a_keyword aliases key.While) (test ts aliases d (n + 1) (do_end m b)))
      ∙ then-same (body_at ts aliases d (m + 1)) _ _ (λ b n.
      token_at (a_keyword aliases key.While) n (λ k. going (test ts aliases d k (do_end m b)) k)
      ∙ then-same (one_token ts (a_keyword aliases key.While) n) _ _ (λ u k.
      test_is d k (do_end m b)
      ∙ then-same (test_at ts aliases d k) _ _ (λ x e. token_at (a_semicolon aliases) e (λ f. Ok (do_loop b x (span_over ts m f), f)))))

  pub case_is : (d m : ℕ) → sign_at ts aliases m ≡ sign.Keyword key.Case
      → stmt d m ≡ then (read ts an_expression (expression aliases d 0) (m + 1)) (λ x n. then (one_token ts (a_colon aliases) n) (λ u k.
      then (body_at ts aliases d k) (λ b e. Ok (case x b (span_over ts m e), e))))
  case_is d m e =
      row_is d m _ e ∙ word_is key.Case m _ _ e refl
      ∙ then-same (read ts an_expression (expression aliases d 0) (m + 1)) _ _ (λ x n.
      token_at (a_colon aliases) n (λ k. going (body ts aliases d k (λ b e. done (case x b (span_over ts m e)))) k)
      ∙ then-same (one_token ts (a_colon aliases) n) _ _ (λ u k. body_is d k (λ b e. done (case x b (span_over ts m e)))))

  pub otherwise_is : (d m : ℕ) → sign_at ts aliases m ≡ sign.Keyword key.Default
      → stmt d m ≡ then (one_token ts (a_colon aliases) (m + 1)) (λ u k. then (body_at ts aliases d k) (λ b e. Ok (otherwise b (span_over ts m e), e)))
  otherwise_is d m e =
      row_is d m _ e ∙ word_is key.Default m _ _ e refl
      ∙ token_at (a_colon aliases) (m + 1) (λ k. going (body ts aliases d k (λ b e. done (otherwise b (span_over ts m e)))) k)
      ∙ then-same (one_token ts (a_colon aliases) (m + 1)) _ _ (λ u k. body_is d k (λ b e. done (otherwise b (span_over ts m e))))

  -- after `for (`
  abbrev pub for_at : (d m : ℕ) → ForInit → (n : ℕ) → Outcome Statement
  for_at d m i n =
      then (value_or_none_at ts aliases (d + 1) n) (λ x k. then (step_at ts aliases (d + 1) k) (λ s e.
      then (body_at ts aliases d e) (λ b f. Ok (for_loop i x s b (span_over ts m f), f))))

  end_is : (d m : ℕ) (i : ForInit) (x : Option Expression) (n : ℕ)
      → going (for_end ts aliases d m i x n) n
      ≡ then (step_at ts aliases (d + 1) n) (λ s e. then (body_at ts aliases d e) (λ b f. Ok (for_loop i x s b (span_over ts m f), f)))
  unfolding step_at simple_at
  end_is d m i x n =
      ap (λ r. choose (sees ts (a_close aliases) n) (choose (sees ts (a_close aliases) n) r (Err (refuse syntax n)))
      (then (read ts a_simple (simple aliases (d + 1)) n) (λ s e. choose (sees ts (a_close aliases) e)
      (going (body ts aliases d (e + 1) (λ b f. done (for_loop i x (Some s.simple) b (span_over ts m f)))) (e + 1)) (Err (refuse syntax e)))))
      (body_is d (n + 1) (λ b f. done (for_loop i x None b (span_over ts m f))))
      ∙ ap (λ r. choose (sees ts (a_close aliases) n) (choose (sees ts (a_close aliases) n)
      (then (body_at ts aliases d (n + 1)) (λ b f. Ok (for_loop i x None b (span_over ts m f), f))) (Err (refuse syntax n))) r)
      (then-same (read ts a_simple (simple aliases (d + 1)) n) _ _ (λ s e.
      token_at (a_close aliases) e (λ k. going (body ts aliases d k (λ b f. done (for_loop i x (Some s.simple) b (span_over ts m f)))) k)
      ∙ then-same (one_token ts (a_close aliases) e) _ _ (λ u k.
      body_is d k (λ b f. done (for_loop i x (Some s.simple) b (span_over ts m f)))
      ∙ sym (then-ok (Some s.simple) k (λ s e. then (body_at ts aliases d e) (λ b f. Ok (for_loop i x s b (span_over ts m f), f)))))
      ∙ sym (then-then (one_token ts (a_close aliases) e) (λ u k. Ok (Some s.simple, k)) (λ s e. then (body_at ts aliases d e) (λ b f. Ok (for_loop i x s b (span_over ts m f), f)))))
      ∙ sym (then-then (read ts a_simple (simple aliases (d + 1)) n) (λ s e. then (one_token ts (a_close aliases) e) (λ u k. Ok (Some s.simple, k)))
      (λ s e. then (body_at ts aliases d e) (λ b f. Ok (for_loop i x s b (span_over ts m f), f))))
      ∙ ap (λ r. then r (λ s e. then (body_at ts aliases d e) (λ b f. Ok (for_loop i x s b (span_over ts m f), f))))
      (then-same (read ts a_simple (simple aliases (d + 1)) n) _ _ (λ s e. sym (then-ok s.simple e (λ x e. then (one_token ts (a_close aliases) e) (λ u k. Ok (Some x, k)))))
      ∙ sym (then-then (read ts a_simple (simple aliases (d + 1)) n) (λ s e. Ok (s.simple, e)) (λ x e. then (one_token ts (a_close aliases) e) (λ u k. Ok (Some x, k))))))
      ∙ either_law (sees ts (a_close aliases) n) n None _ (λ s e. then (body_at ts aliases d e) (λ b f. Ok (for_loop i x s b (span_over ts m f), f)))

  pub for_is : (d m : ℕ) → sign_at ts aliases m ≡ sign.Keyword key.For
      → stmt d m ≡ then (opening ts aliases d (m + 1)) (λ u n. then (read ts a_for_init (for_init aliases (d + 1)) n) (λ i e. for_at d m i e))
  for_is d m e =
      row_is d m _ e ∙ word_is key.For m _ _ e refl
      ∙ opening_is d (m + 1) (λ n. then (read ts a_for_init (for_init aliases (d + 1)) n) (λ i e.
      going (value_or_none ts aliases (d + 1) e (λ x f. for_end ts aliases d m i x f)) e)) _
      ∙ then-same (opening ts aliases d (m + 1)) _ _ (λ u n.
      then-same (read ts a_for_init (for_init aliases (d + 1)) n) _ _ (λ i e.
      value_is (d + 1) e (λ x f. for_end ts aliases d m i x f)
      ∙ then-same (value_or_none_at ts aliases (d + 1) e) _ _ (λ x f. end_is d m i x f)))
