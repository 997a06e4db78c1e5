-- The rows of statements spell them by the productions only.
use Rattle.std.proofs.Common.{ℕ, ◌+◌, ◌≡◌, ◌∙◌, ap, sym, subst, refl, Bool, true, Option, Some, None, List}
use Rattle.std.proofs.lemmas.Bool.{not-true}
use Rattle.tsa_base.specs.Tokens.{Lexeme}
use Rattle.tsa_base.proofs.Truths.{never_true as never}
use Rattle.tsa_tree.specs.declared.expr.BinaryOp.{BinaryOp}
use Rattle.tsa_tree.specs.declared.sign.Keyword.TheVariants as key
use Rattle.tsa_tree.specs.declared.sign.Sign.{Sign}
use Rattle.tsa_tree.specs.declared.sign.Sign.TheVariants as sign
use Rattle.tsa_tree.specs.expressions.Syntax.{Expression}
use Rattle.tsa_tree.specs.tokens.Signs.{Aliases, sign_at, span_over, identifier_at, operator, assigns}
use Rattle.tsa_tree.specs.expressions.Spelling.{IsExpression}
use Rattle.tsa_tree.specs.statements.Spelling.{IsSimple, of_evaluation, of_assignment, of_step_behind, of_step_before, IsOptional}
use Rattle.tsa_tree.specs.statements.Spelling.{no_expression, an_expression, IsTest, of_test, IsForInit, of_no_init, of_simple_init}
use Rattle.tsa_tree.specs.statements.Spelling.{of_local_init, of_no_step, of_step, IsStatement, of_block, of_empty, of_simple, of_if}
use Rattle.tsa_tree.specs.statements.Spelling.{of_if_else, of_while, of_do, of_for, of_switch, of_case, of_default, of_label, of_break}
use Rattle.tsa_tree.specs.statements.Spelling.{of_continue, of_goto, of_return, IsBody, of_body, no_statement, of_locals_first}
use Rattle.tsa_tree.specs.statements.Spelling.{of_statement_first}
use Rattle.tsa_tree.specs.statements.Syntax.{evaluation, by_expression, ForInit, Statement, block, if_else, while_loop, do_loop, for_loop}
use Rattle.tsa_tree.specs.statements.Syntax.{switch, case, otherwise, label, return, ends_short}
use Rattle.tsa_tree.specs.Rows.{Sort, a_simple, a_for_init, a_statement, some_statements, Node, operand, simple, for_init, statement}
use Rattle.tsa_tree.specs.Rows.{statements, a_semicolon, a_keyword, sees, Row, climb, climb_on, tightest, simple_behind, simple_row, body}
use Rattle.tsa_tree.specs.Rows.{test, value_or_none, if_end, for_end, simple_statement, statement_row, rule}
use Rattle.tsa_tree.specs.Rows as rows
use Rattle.tsa_tree.proofs.tokens.ProductionSigns.{shows_name, shows_open, shows_close, shows_close_brace}
use Rattle.tsa_tree.proofs.declarations.Signs.{shows_semicolon, shows_colon, shows_keyword}
use Rattle.tsa_tree.proofs.expressions.ToRows.{stop_behind}
use Rattle.tsa_tree.proofs.expressions.RowsToProductions.{production_of}
use Rattle.tsa_grammar.specs.Form.{done, token}
use Rattle.tsa_grammar.specs.Spelling as forms
use Rattle.tsa_grammar.specs.Spelling.{by_rule, goes_done, goes_part, goes_only, goes_left}
use Rattle.tsa_tree.proofs.declarations.Meanings.{Keeps, Means}

module _ (tokens : List Lexeme) (aliases : Aliases) (fits : ℕ → Bool) where
  abbrev Spells : (s : Sort) → rows.Call s → Node s → (a b : ℕ) → Type 0
  Spells s c x a b = forms.Spells (rule tokens) (sees tokens) fits s c x a b

  module _ (d a : ℕ) where
    abbrev KeepsSimple : Row a_simple → ℕ → Type 0
    KeepsSimple f n = Keeps tokens fits a_simple (λ x b. IsSimple tokens aliases fits d x.simple a b) f n

    abbrev Evaluated : Expression → ℕ → Row a_simple
    Evaluated x n = done (record { simple = evaluation x (span_over tokens a n); ending = by_expression x })

    -- An operand and what goes on after it are an expression.
    whole : (l : Expression) (m : ℕ) → Spells rows.an_expression (operand aliases d) l a m → (y : Expression) (n : ℕ)
        → forms.Goes (rule tokens) (sees tokens) fits rows.an_expression (climb tokens aliases d 0 tightest a l m (λ x e. done x)) y m n
        → IsExpression tokens aliases fits d 0 y a n
    whole l m sp y n g =
        production_of tokens fits {c = rows.expression aliases d 0}
        (by_rule (goes_part {k = λ x n. climb tokens aliases d 0 tightest a x n (λ x e. done x)} sp g)) tt

    climbs : (l : Expression) (m : ℕ) (o : BinaryOp) → operator (sign_at tokens aliases m) ≡ Some o → (y : Expression) (n : ℕ)
        → forms.Goes (rule tokens) (sees tokens) fits rows.an_expression (climb_on tokens aliases d 0 tightest a l m (λ x e. done x) (Some o)) y m n
        → forms.Goes (rule tokens) (sees tokens) fits rows.an_expression (climb tokens aliases d 0 tightest a l m (λ x e. done x)) y m n
    climbs l m o q y n g =
        subst (λ p. forms.Goes (rule tokens) (sees tokens) fits rows.an_expression (climb_on tokens aliases d 0 tightest a l m (λ x e. done x) p) y m n)
        (sym q) g

    -- Behind an operand, more of the expression or its end makes an expression.
    keeps_climbing : (l : Expression) (m : ℕ) → Spells rows.an_expression (operand aliases d) l a m
        → (o : Option BinaryOp) → operator (sign_at tokens aliases m) ≡ o
        → KeepsSimple (climb_on tokens aliases d 0 tightest a l m Evaluated o) m
    keeps_climbing l m sp None q = of_evaluation (whole l m sp l m (stop_behind tokens aliases fits d 0 tightest a l m))
    keeps_climbing l m sp (Some o) q = (
      (λ le. (tt, λ y n sp'. of_evaluation (whole l m sp y n (climbs l m o q y n (goes_left (goes_only le (goes_part sp' goes_done))))))),
      of_evaluation (whole l m sp l m (stop_behind tokens aliases fits d 0 tightest a l m)),
    )

    -- Behind an operand, a step, an assignment or more of the expression stands.
    keeps_simple_behind : (l : Expression) (m : ℕ) → Spells rows.an_expression (operand aliases d) l a m → (s : Sign)
        → sign_at tokens aliases m ≡ s → (o : Option (Option BinaryOp)) → assigns s ≡ o
        → KeepsSimple (simple_behind tokens aliases d a l m s o) m
    keeps_simple_behind l m sp (sign.Step op) q o e = λ seen. of_step_behind (production_of tokens fits sp tt) q
    keeps_simple_behind l m sp s q (Some op) e = go s q e
      where
        go : (s : Sign) → sign_at tokens aliases m ≡ s → assigns s ≡ Some op → KeepsSimple (simple_behind tokens aliases d a l m s (Some op)) m
        go (sign.Step p) q e = cc
        go _ q e = λ seen. (tt, λ r n sp'. of_assignment (production_of tokens fits sp tt) (ap assigns q ∙ e) (production_of tokens fits sp' tt))
    keeps_simple_behind l m sp s q None e = go s q
      where
        go : (s : Sign) → sign_at tokens aliases m ≡ s → KeepsSimple (simple_behind tokens aliases d a l m s None) m
        go (sign.Step op) q = λ seen. of_step_behind (production_of tokens fits sp tt) q
        go _ q = keeps_climbing l m sp (operator (sign_at tokens aliases m)) refl

    keeps_simple_row : (s : Sign) → sign_at tokens aliases a ≡ s → KeepsSimple (simple_row tokens aliases d a s) a
    keeps_simple_row (sign.Step op) q = λ seen. (tt, λ x n sp. of_step_before q (production_of tokens fits sp tt))
    keeps_simple_row _ q =
        (tt, λ l n sp. keeps_simple_behind l n sp (sign_at tokens aliases n) refl (assigns (sign_at tokens aliases n)) refl)

    pub keeps_simple : KeepsSimple (rule tokens a_simple (simple aliases d) a) a
    keeps_simple = keeps_simple_row (sign_at tokens aliases a) refl

    pub keeps_for_init : Keeps tokens fits a_for_init (λ x b. Means tokens fits a_for_init (for_init aliases d) x a b)
        (rule tokens a_for_init (for_init aliases d) a) a
    keeps_for_init = (
      (λ semicolon. (a, of_no_init, shows_semicolon tokens aliases a semicolon, refl)),
      (
        (tt, λ t n i. (tt, λ x e j semicolon. (e, of_local_init i j, shows_semicolon tokens aliases e semicolon, refl))),
        (tt, λ x n i semicolon. (n, of_simple_init i, shows_semicolon tokens aliases n semicolon, refl)),
      ),
    )

  -- A body keeps to what comes after it.
  keeps_body : (P : Statement → ℕ → Type 0) (d m : ℕ) (end : Statement → ℕ → Row a_statement)
      → ((x : Statement) (n : ℕ) → IsBody tokens aliases fits d x m n → Keeps tokens fits a_statement P (end x n) n)
      → Keeps tokens fits a_statement P (body tokens aliases d m end) m
  keeps_body P d m end go = ((λ fit. (tt, λ x n i. go x n (of_body fit i))), never)

  -- An expression in parentheses keeps to what comes after it.
  keeps_test : (P : Statement → ℕ → Type 0) (d m : ℕ) (end : Expression → ℕ → Row a_statement)
      → ((x : Expression) (n : ℕ) → IsTest tokens aliases fits d x m n → Keeps tokens fits a_statement P (end x n) n)
      → Keeps tokens fits a_statement P (test tokens aliases d m end) m
  keeps_test P d m end go = (
    (λ fit open_. (
      tt,
      λ x n sp close. go x (n + 1)
          (of_test (shows_open tokens aliases m open_) fit (production_of tokens fits sp tt) (shows_close tokens aliases n close)),
    )),
    never,
  )

  -- An expression or nothing and its `;` keep to what comes after them.
  keeps_value : (P : Statement → ℕ → Type 0) (d m : ℕ) (end : Option Expression → ℕ → Row a_statement)
      → ((x : Option Expression) (n : ℕ) → IsOptional tokens aliases fits d x m n → sign_at tokens aliases n ≡ sign.Semicolon
      → Keeps tokens fits a_statement P (end x (n + 1)) (n + 1))
      → Keeps tokens fits a_statement P (value_or_none tokens aliases d m end) m
  keeps_value P d m end go = (
    (λ semicolon. go None m no_expression (shows_semicolon tokens aliases m semicolon)),
    (
      tt,
      λ x n sp semicolon. go (Some x) n (an_expression (production_of tokens fits sp tt)) (shows_semicolon tokens aliases n semicolon),
    ),
  )

  module _ (d a : ℕ) where
    abbrev KeepsStatement : Row a_statement → ℕ → Type 0
    KeepsStatement f n = Keeps tokens fits a_statement (λ x b. IsStatement tokens aliases fits d x a b) f n

    abbrev Spelled : Statement → ℕ → Type 0
    Spelled x b = IsStatement tokens aliases fits d x a b

    keeps_if_end : (x : Expression) (arm : Statement) (m n : ℕ) → sign_at tokens aliases a ≡ sign.Keyword key.If
        → IsTest tokens aliases fits d x (a + 1) m → IsBody tokens aliases fits d arm m n
        → KeepsStatement (if_end tokens aliases d a x arm n) n
    keeps_if_end x arm m n q t i = (
      (λ long else_.
          keeps_body Spelled d (n + 1) (λ other e. done (if_else x arm other (span_over tokens a e))) (λ other e j.
          of_if_else q t i (not-true (ends_short arm) long) (shows_keyword tokens aliases key.Else n else_) j)),
      of_if q t i,
    )

    keeps_for_end : (i : ForInit) (x : Option Expression) (m n : ℕ) → sign_at tokens aliases a ≡ sign.Keyword key.For
        → sign_at tokens aliases (a + 1) ≡ sign.Open → fits d ≡ true
        → IsForInit tokens aliases fits (d + 1) i (a + 1 + 1) m → sign_at tokens aliases m ≡ sign.Semicolon
        → IsOptional tokens aliases fits (d + 1) x (m + 1) n → sign_at tokens aliases n ≡ sign.Semicolon
        → KeepsStatement (for_end tokens aliases d a i x (n + 1)) (n + 1)
    keeps_for_end i x m n q o fit init s1 test s2 = (
      (λ close.
          keeps_body Spelled d (n + 1 + 1) (λ inner e. done (for_loop i x None inner (span_over tokens a e))) (λ inner e j.
          of_for q o fit init s1 test s2 of_no_step (shows_close tokens aliases (n + 1) close) j)),
      (
        tt,
        λ y e step close.
            keeps_body Spelled d (e + 1) (λ inner f. done (for_loop i x (Some y.simple) inner (span_over tokens a f))) (λ inner f j.
            of_for q o fit init s1 test s2 (of_step step) (shows_close tokens aliases e close) j),
      ),
    )

    keeps_simple_statement : KeepsStatement (simple_statement tokens aliases d a) a
    keeps_simple_statement = (tt, λ x n i semicolon. of_simple i (shows_semicolon tokens aliases n semicolon))

    keeps_statement_row : (s : Sign) → sign_at tokens aliases a ≡ s → KeepsStatement (statement_row tokens aliases d a s) a
    keeps_statement_row sign.OpenBrace q = λ fit seen. (
      tt,
      λ xs n closed. subst (λ n. IsStatement tokens aliases fits d (block xs (span_over tokens a n)) a n) (sym closed.3)
          (of_block q fit closed.1 closed.2),
    )
    keeps_statement_row sign.Semicolon q = λ seen. of_empty q
    keeps_statement_row (sign.Keyword key.If) q = λ seen.
        keeps_test Spelled d (a + 1) (λ x n. body tokens aliases d n (λ arm e. if_end tokens aliases d a x arm e)) (λ x n t.
        keeps_body Spelled d n (λ arm e. if_end tokens aliases d a x arm e) (λ arm e i. keeps_if_end x arm n e q t i))
    keeps_statement_row (sign.Keyword key.While) q = λ seen.
        keeps_test Spelled d (a + 1) (λ x n. body tokens aliases d n (λ inner e. done (while_loop x inner (span_over tokens a e)))) (λ x n t.
        keeps_body Spelled d n (λ inner e. done (while_loop x inner (span_over tokens a e))) (λ inner e i. of_while q t i))
    keeps_statement_row (sign.Keyword key.Do) q = λ seen.
        keeps_body Spelled d (a + 1)
        (λ inner n. token (a_keyword aliases key.While) (test tokens aliases d (n + 1) (λ x e.
        token (a_semicolon aliases) (done (do_loop inner x (span_over tokens a (e + 1)))))))
        (λ inner n i while_.
        keeps_test Spelled d (n + 1) (λ x e. token (a_semicolon aliases) (done (do_loop inner x (span_over tokens a (e + 1)))))
        (λ x e t semicolon. of_do q i (shows_keyword tokens aliases key.While n while_) t (shows_semicolon tokens aliases e semicolon)))
    keeps_statement_row (sign.Keyword key.For) q = λ seen. (
      (λ fit open_. (
        tt,
        λ i n closed. for_value i n closed fit (shows_open tokens aliases (a + 1) open_),
      )),
      never,
    )
      where
        for_value : (i : ForInit) (n : ℕ) → Means tokens fits a_for_init (for_init aliases (d + 1)) i (a + 1 + 1) n → fits d ≡ true
            → sign_at tokens aliases (a + 1) ≡ sign.Open
            → KeepsStatement (value_or_none tokens aliases (d + 1) n (λ x e. for_end tokens aliases d a i x e)) n
        for_value i n closed fit o =
            subst (λ n. KeepsStatement (value_or_none tokens aliases (d + 1) n (λ x e. for_end tokens aliases d a i x e)) n) (sym closed.3)
            (keeps_value Spelled (d + 1) (closed.0 + 1) (λ x e. for_end tokens aliases d a i x e) (λ x e j s.
            keeps_for_end i x closed.0 e q o fit closed.1 closed.2 j s))
    keeps_statement_row (sign.Keyword key.Switch) q = λ seen.
        keeps_test Spelled d (a + 1) (λ x n. body tokens aliases d n (λ inner e. done (switch x inner (span_over tokens a e)))) (λ x n t.
        keeps_body Spelled d n (λ inner e. done (switch x inner (span_over tokens a e))) (λ inner e i. of_switch q t i))
    keeps_statement_row (sign.Keyword key.Case) q = λ seen. (
      tt,
      λ x n sp colon.
          keeps_body Spelled d (n + 1) (λ inner e. done (case x inner (span_over tokens a e))) (λ inner e i.
          of_case q (production_of tokens fits sp tt) (shows_colon tokens aliases n colon) i),
    )
    keeps_statement_row (sign.Keyword key.Default) q = λ seen colon.
        keeps_body Spelled d (a + 1 + 1) (λ inner e. done (otherwise inner (span_over tokens a e))) (λ inner e i.
        of_default q (shows_colon tokens aliases (a + 1) colon) i)
    keeps_statement_row (sign.Keyword key.Break) q = λ seen semicolon. of_break q (shows_semicolon tokens aliases (a + 1) semicolon)
    keeps_statement_row (sign.Keyword key.Continue) q = λ seen semicolon. of_continue q (shows_semicolon tokens aliases (a + 1) semicolon)
    keeps_statement_row (sign.Keyword key.Goto) q = λ seen name semicolon.
        of_goto q (shows_name tokens aliases (a + 1) name) (shows_semicolon tokens aliases (a + 1 + 1) semicolon)
    keeps_statement_row (sign.Keyword key.Return) q = λ seen.
        keeps_value Spelled d (a + 1) (λ x n. done (return x (span_over tokens a n))) (λ x n i s. of_return q i s)
    keeps_statement_row sign.Name q = (
      (λ labelled seen colon.
          keeps_body Spelled d (a + 1 + 1) (λ inner e. done (label (identifier_at tokens a) inner (span_over tokens a e))) (λ inner e i.
          of_label q (shows_colon tokens aliases (a + 1) colon) i)),
      (λ plain. keeps_simple_statement),
    )
    keeps_statement_row _ q = keeps_simple_statement

    pub keeps_statement : KeepsStatement (rule tokens a_statement (statement aliases d) a) a
    keeps_statement = keeps_statement_row (sign_at tokens aliases a) refl

    pub keeps_statements : Keeps tokens fits some_statements (λ xs b. Means tokens fits some_statements (statements aliases d) xs a b)
        (rule tokens some_statements (statements aliases d) a) a
    keeps_statements = (
      (λ close. (a, no_statement, shows_close_brace tokens aliases a close, refl)),
      (
        (
          tt,
          λ xs n i semicolon. (
            tt,
            λ ys e closed. (closed.0, of_locals_first i (shows_semicolon tokens aliases n semicolon) closed.1, closed.2, closed.3),
          ),
        ),
        (tt, λ x n i. (tt, λ ys e closed. (closed.0, of_statement_first i closed.1, closed.2, closed.3))),
      ),
    )
