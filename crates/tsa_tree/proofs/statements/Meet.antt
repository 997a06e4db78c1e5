-- The rows of statements meet what their reader needs.
use Rattle.std.proofs.Common.{ℕ, ◌+◌, ◌<◌, ◌≡◌, ◌∙◌, ap, sym, refl, Bool, true, false, not, Option, Some, None, List, arith, inl, inr}
use Rattle.std.proofs.Common.{nat_eq}
use Rattle.std.proofs.lemmas.Bool.{le-leb, leb-false}
use Rattle.tsa_base.specs.Tokens.{Lexeme}
use Rattle.tsa_tree.specs.declared.expr.BinaryOp.{BinaryOp}
use Rattle.tsa_tree.specs.declared.sign.Keyword.TheVariants as key
use Rattle.tsa_tree.specs.declared.sign.Sign.{Sign}
use Rattle.tsa_tree.specs.declared.sign.Sign.TheVariants as sign
use Rattle.tsa_tree.specs.expressions.Syntax.{Expression}
use Rattle.tsa_tree.specs.tokens.Signs.{Aliases, sign_at, span_over, identifier_at, operator, level, assigns}
use Rattle.tsa_tree.specs.statements.Syntax.{evaluation, Ending, by_expression, by_operand, by_step, ForInit, Statement, if_else}
use Rattle.tsa_tree.specs.statements.Syntax.{while_loop, do_loop, for_loop, switch, case, otherwise, label, return, ends_short}
use Rattle.tsa_tree.specs.Rows.{a_simple, a_statement, simple, statement, a_semicolon, a_colon, a_keyword, rank, mark, sees, is_keyword}
use Rattle.tsa_tree.specs.Rows.{Row, tightest, climb_on, simple_behind, simple_row, body, test, value_or_none, if_end, for_end}
use Rattle.tsa_tree.specs.Rows.{simple_statement, statement_row, rule}
use Rattle.tsa_grammar.specs.Form.{done, token}
use Rattle.tsa_grammar.proofs.Good as g
use Rattle.tsa_tree.proofs.tokens.Facts.{is_plain, operator_no_postfix, operator_no_open, close_plain, level_low}
use Rattle.tsa_tree.proofs.RowFacts.{begins_statement, begins_simple, Ended, First, Ends, Moves, EndsSimple, EndsStatement, Next, Start}
use Rattle.tsa_tree.proofs.RowFacts.{Good, never, ended}
use Rattle.tsa_tree.proofs.declarations.Facts.{semicolon_plain, not_true, not_false}
use Rattle.tsa_tree.proofs.statements.Facts.{colon_plain, step_no_postfix, step_no_open, assignment_no_postfix, assignment_no_open}
use Rattle.tsa_tree.proofs.statements.Facts.{step_begins, operand_simple, simple_statement_begins, operand_no_semicolon, simple_no_close}
use Rattle.tsa_tree.proofs.statements.Facts.{while_no_else}

module _ (tokens : List Lexeme) where
  -- What ends a simple statement is over before a token that goes on with no expression.
  pub simple_over : (aliases : Aliases) (e : Ending) (n : ℕ) → is_plain (sign_at tokens aliases n) ≡ true → EndsSimple tokens aliases e n
  simple_over aliases (by_expression x) n h = ended tokens aliases x 0 n h
  simple_over aliases (by_operand x) n h = (ended tokens aliases x 0 n h).0
  simple_over aliases by_step n h = tt

  module _ (aliases : Aliases) (d start : ℕ) where
    abbrev NextSimple : Row a_simple → ℕ → Type 0
    NextSimple f n = Next tokens a_simple (Ends tokens a_simple (simple aliases d)) f n

    abbrev GoodSimple : (fresh : Bool) → Row a_simple → ℕ → Type 0
    GoodSimple fresh f n = Good tokens a_simple (simple aliases d) fresh f n

    abbrev Evaluated : Expression → ℕ → Row a_simple
    Evaluated x n = done (record { simple = evaluation x (span_over tokens start n); ending = by_expression x })

    -- after an operand, an operator or the end of the expression
    next_climbing : (l : Expression) (m : ℕ) (o : Option BinaryOp) → operator (sign_at tokens aliases m) ≡ o
        → NextSimple (climb_on tokens aliases d 0 tightest start l m Evaluated o) m → Ended tokens aliases l m
    next_climbing l m None e h = h.0
    next_climbing l m (Some o) e (inl h) =
        (operator_no_postfix (sign_at tokens aliases m) o e, λ q. operator_no_open (sign_at tokens aliases m) o e)
    next_climbing l m (Some o) e (inr h) = h.0

    no_op : (m : ℕ) (o : BinaryOp) → operator (sign_at tokens aliases m) ≡ None → operator (sign_at tokens aliases m) ≡ Some o → ⊥
    no_op m o e q = let z : Some o ≡ None = sym q ∙ e in cc

    good_climbing : (l : Expression) (m : ℕ) (o : Option BinaryOp) → operator (sign_at tokens aliases m) ≡ o → Ended tokens aliases l m
        → GoodSimple false (climb_on tokens aliases d 0 tightest start l m Evaluated o) m
    good_climbing l m None e en = (en, λ o q. absurd (no_op m o e q))
    good_climbing l m (Some o) e en = (
      (λ h. le-leb 0 (level o) (omega arith)),
      (λ h. h.1 o e),
      (λ q. (level_low o, (tt, λ y n. ((λ h. h), (λ h. h))))),
      (λ q. absurd (omega (arith, leb-false 0 (level o) q))),
    )

    next_behind : (l : Expression) (m : ℕ) (s : Sign) (o : Option (Option BinaryOp)) → assigns s ≡ o → sign_at tokens aliases m ≡ s
        → NextSimple (simple_behind tokens aliases d start l m s o) m → Ended tokens aliases l m
    next_behind l m (sign.Step p) o a e h =
        (step_no_postfix (sign_at tokens aliases m) h, λ q. step_no_open (sign_at tokens aliases m) h)
    next_behind l m s (Some p) a e h = go s a e h
      where
        go : (s : Sign) → assigns s ≡ Some p → sign_at tokens aliases m ≡ s
            → NextSimple (simple_behind tokens aliases d start l m s (Some p)) m → Ended tokens aliases l m
        go (sign.Step q) a e h = cc
        go _ a e h = (assignment_no_postfix (sign_at tokens aliases m) h, λ q. assignment_no_open (sign_at tokens aliases m) h)
    next_behind l m s None a e h = go s e h
      where
        go : (s : Sign) → sign_at tokens aliases m ≡ s → NextSimple (simple_behind tokens aliases d start l m s None) m
            → Ended tokens aliases l m
        go (sign.Step q) e h = (step_no_postfix (sign_at tokens aliases m) h, λ q. step_no_open (sign_at tokens aliases m) h)
        go _ e h = next_climbing l m (operator (sign_at tokens aliases m)) refl h

    good_behind : (l : Expression) (m : ℕ) (s : Sign) (o : Option (Option BinaryOp)) → Ended tokens aliases l m
        → GoodSimple false (simple_behind tokens aliases d start l m s o) m
    good_behind l m (sign.Step p) o en = λ e. tt
    good_behind l m s (Some p) en = go s
      where
        go : (s : Sign) → GoodSimple false (simple_behind tokens aliases d start l m s (Some p)) m
        go (sign.Step q) = λ e. tt
        go _ = λ e. (tt, λ r n. ((λ h. h), (λ h. h)))
    good_behind l m s None en = go s
      where
        go : (s : Sign) → GoodSimple false (simple_behind tokens aliases d start l m s None) m
        go (sign.Step q) = λ e. tt
        go _ = good_climbing l m (operator (sign_at tokens aliases m)) refl en

  good_simple_row : (aliases : Aliases) (d m : ℕ) (s : Sign) → Good tokens a_simple (simple aliases d) true (simple_row tokens aliases d m s) m
  good_simple_row aliases d m (sign.Step o) = λ e. (tt, λ x n. ((λ h. h), (λ h. h)))
  good_simple_row aliases d m _ = (
    omega arith,
    λ l n. (
      (λ h. next_behind aliases d m l n (sign_at tokens aliases n) (assigns (sign_at tokens aliases n)) refl refl h),
      (λ h. good_behind aliases d m l n (sign_at tokens aliases n) (assigns (sign_at tokens aliases n)) h),
    ),
  )

  pub good_simple : (aliases : Aliases) (d m : ℕ) → Good tokens a_simple (simple aliases d) true (rule tokens a_simple (simple aliases d) m) m
  good_simple aliases d m = good_simple_row aliases d m (sign_at tokens aliases m)

  pub first_simple : (aliases : Aliases) (d m : ℕ) (s : Sign) → Start tokens a_simple (simple_row tokens aliases d m s) m
      → begins_simple (sign_at tokens aliases m) ≡ true
  first_simple aliases d m (sign.Step o) h = step_begins (sign_at tokens aliases m) h
  first_simple aliases d m _ h = operand_simple (sign_at tokens aliases m) h

  module _ (aliases : Aliases) (d : ℕ) where
    abbrev GoodStatement : (fresh : Bool) → Row a_statement → ℕ → Type 0
    GoodStatement fresh f n = Good tokens a_statement (statement aliases d) fresh f n

    abbrev NextStatement : Row a_statement → ℕ → Type 0
    NextStatement f n = Next tokens a_statement (Ends tokens a_statement (statement aliases d)) f n

    -- a body, which a statement begins, and what stands after it
    good_body : (m : ℕ) (end : Statement → ℕ → Row a_statement)
        → ((x : Statement) (n : ℕ) → NextStatement (end x n) n → EndsStatement tokens aliases x n)
        → ((x : Statement) (n : ℕ) → EndsStatement tokens aliases x n → GoodStatement false (end x n) n)
        → GoodStatement false (body tokens aliases d m end) m
    good_body m end over goes =
        ((λ h. h), (λ h. never tokens m h), (λ e. (e, (tt, λ x n. (over x n, goes x n)))), (λ e p. never tokens m p))

    good_test : (m : ℕ) (end : Expression → ℕ → Row a_statement)
        → ((x : Expression) (n : ℕ) → GoodStatement false (end x (n + 1)) (n + 1)) → GoodStatement false (test tokens aliases d m end) m
    good_test m end goes = (
      (λ h. h),
      (λ h. never tokens m h),
      (λ e. (
        e,
        λ p. (
          tt,
          λ x n. (
            (λ h. ended tokens aliases x 0 n (close_plain (sign_at tokens aliases n) h)),
            (λ h q. goes x n),
          ),
        ),
      )),
      (λ e p. never tokens m p),
    )

    good_value : (e m : ℕ) (end : Option Expression → ℕ → Row a_statement)
        → ((x : Option Expression) (n : ℕ) → GoodStatement false (end x n) n) → GoodStatement false (value_or_none tokens aliases e m end) m
    good_value e m end goes = (
      (λ h. h),
      (λ h. operand_no_semicolon (sign_at tokens aliases m) h),
      (λ p q. goes None (m + 1)),
      (λ p. (
        tt,
        λ x n. (
          (λ h. ended tokens aliases x 0 n (semicolon_plain (sign_at tokens aliases n) h)),
          (λ h q. goes (Some x) (n + 1)),
        ),
      )),
    )

    -- where an `else` follows, the arm before it isn't short
    not_short : (short else_follows : Bool) → (short ≡ true → else_follows ≡ false) → else_follows ≡ true → not short ≡ true
    not_short true e h q = let never : true ≡ false = sym q ∙ h refl in cc
    not_short false e h q = refl

    short_over : (arm : Statement) (n : ℕ) → not (ends_short arm) ≡ true → EndsStatement tokens aliases arm n
    short_over arm n h q = let never : true ≡ false = sym q ∙ not_true (ends_short arm) h in cc

    good_if_end : (start : ℕ) (x : Expression) (arm : Statement) (n : ℕ) → EndsStatement tokens aliases arm n
        → GoodStatement false (if_end tokens aliases d start x arm n) n
    good_if_end start x arm n en = (
      (λ h. h.1),
      (λ h. h refl),
      (λ e. (
        not_short (ends_short arm) (is_keyword key.Else (sign_at tokens aliases n)) en e,
        λ p. good_body (n + 1) (λ other e. done (if_else x arm other (span_over tokens start e))) (λ other e h. h) (λ other e h. h),
      )),
      (λ e q. e),
    )

    next_if_end : (start : ℕ) (x : Expression) (arm : Statement) (n : ℕ) → NextStatement (if_end tokens aliases d start x arm n) n
        → EndsStatement tokens aliases arm n
    next_if_end start x arm n (inl h) = short_over arm n h.0
    next_if_end start x arm n (inr h) = λ q. h refl

    good_for_end : (start : ℕ) (i : ForInit) (x : Option Expression) (n : ℕ) → GoodStatement false (for_end tokens aliases d start i x n) n
    good_for_end start i x n = (
      (λ h. h),
      (λ h. simple_no_close (sign_at tokens aliases n) h),
      (λ e p. good_body (n + 1) (λ inner e. done (for_loop i x None inner (span_over tokens start e))) (λ inner e h. h) (λ inner e h. h)),
      (λ e. (
        tt,
        λ s f. (
          (λ h. simple_over aliases s.ending f (close_plain (sign_at tokens aliases f) h)),
          (λ h p. good_body (f + 1) (λ inner e. done (for_loop i x (Some s.simple) inner (span_over tokens start e))) (λ inner e h. h)
              (λ inner e h. h)),
        ),
      )),
    )

    good_simple_statement : (fresh : Bool) (m : ℕ) → GoodStatement fresh (simple_statement tokens aliases d m) m
    good_simple_statement fresh m =
        (lower fresh, λ x n. ((λ h. simple_over aliases x.ending n (semicolon_plain (sign_at tokens aliases n) h)), (λ h p. λ q. cc)))
      where
        lower : (fresh : Bool) → g.Lower (sees tokens) (First tokens) (Ends tokens) (Moves tokens) rank fresh (2 < 3)
        lower true = omega arith
        lower false = tt

    good_statement_row : (m : ℕ) (s : Sign) → sign_at tokens aliases m ≡ s → GoodStatement true (statement_row tokens aliases d m s) m
    good_statement_row m sign.OpenBrace q =
        (ap (λ s. nat_eq (mark s) 17) q, λ p. (tt, λ xs n. ((λ h. tt), (λ h. λ q. cc))))
    good_statement_row m sign.Semicolon q = λ e. λ q. cc
    good_statement_row m (sign.Keyword key.If) q = λ e.
        good_test (m + 1) (λ x n. body tokens aliases d n (λ arm e. if_end tokens aliases d m x arm e))
        (λ x n. good_body (n + 1) (λ arm e. if_end tokens aliases d m x arm e) (λ arm e h. next_if_end m x arm e h)
        (λ arm e h. good_if_end m x arm e h))
    good_statement_row m (sign.Keyword key.While) q = λ e.
        good_test (m + 1) (λ x n. body tokens aliases d n (λ inner e. done (while_loop x inner (span_over tokens m e))))
        (λ x n. good_body (n + 1) (λ inner e. done (while_loop x inner (span_over tokens m e))) (λ inner e h. h) (λ inner e h. h))
    good_statement_row m (sign.Keyword key.Do) q = λ e.
        good_body (m + 1)
        (λ inner n. token (a_keyword aliases key.While) (test tokens aliases d (n + 1) (λ x e.
        token (a_semicolon aliases) (done (do_loop inner x (span_over tokens m (e + 1)))))))
        (λ inner n h q. while_no_else (sign_at tokens aliases n) h)
        (λ inner n h p. good_test (n + 1) (λ x e. token (a_semicolon aliases) (done (do_loop inner x (span_over tokens m (e + 1)))))
        (λ x e p. λ q. cc))
    good_statement_row m (sign.Keyword key.For) q = λ e. (
      (λ h. h),
      (λ h. never tokens (m + 1) h),
      (λ p. (
        p,
        λ p. (
          tt,
          λ i n. (
            (λ h. tt),
            (λ h. good_value (d + 1) n (λ x e. for_end tokens aliases d m i x e) (λ x e. good_for_end m i x e)),
          ),
        ),
      )),
      (λ p q. never tokens (m + 1) q),
    )
    good_statement_row m (sign.Keyword key.Switch) q = λ e.
        good_test (m + 1) (λ x n. body tokens aliases d n (λ inner e. done (switch x inner (span_over tokens m e))))
        (λ x n. good_body (n + 1) (λ inner e. done (switch x inner (span_over tokens m e))) (λ inner e h. h) (λ inner e h. h))
    good_statement_row m (sign.Keyword key.Case) q = λ e. (
      tt,
      λ x n. (
        (λ h. ended tokens aliases x 0 n (colon_plain (sign_at tokens aliases n) h)),
        (λ h p. good_body (n + 1) (λ inner e. done (case x inner (span_over tokens m e))) (λ inner e h. h) (λ inner e h. h)),
      ),
    )
    good_statement_row m (sign.Keyword key.Default) q = λ e p.
        good_body (m + 1 + 1) (λ inner e. done (otherwise inner (span_over tokens m e))) (λ inner e h. h) (λ inner e h. h)
    good_statement_row m (sign.Keyword key.Break) q = λ e p. λ q. cc
    good_statement_row m (sign.Keyword key.Continue) q = λ e p. λ q. cc
    good_statement_row m (sign.Keyword key.Goto) q = λ e p r. λ q. cc
    good_statement_row m (sign.Keyword key.Return) q = λ e.
        good_value d (m + 1) (λ x n. done (return x (span_over tokens m n))) (λ x n. λ q. cc)
    good_statement_row m sign.Name q = (
      (λ h. h.0),
      (λ h. not_true (sees tokens (a_colon aliases) (m + 1)) h.0),
      (λ e. (
        e,
        λ p r. good_body (m + 1 + 1) (λ inner e. done (label (identifier_at tokens m) inner (span_over tokens m e))) (λ inner e h. h)
            (λ inner e h. h),
      )),
      (λ e. (not_false (sees tokens (a_colon aliases) (m + 1)) e, good_simple_statement true m)),
    )
    good_statement_row m _ q = good_simple_statement true m

    pub good_statement : (m : ℕ) → GoodStatement true (rule tokens a_statement (statement aliases d) m) m
    good_statement m = good_statement_row m (sign_at tokens aliases m) refl

  -- The first token of a statement is one of it.
  pub first_statement : (aliases : Aliases) (d m : ℕ) (s : Sign) → sign_at tokens aliases m ≡ s
      → Start tokens a_statement (statement_row tokens aliases d m s) m → begins_statement (sign_at tokens aliases m) ≡ true
  first_statement aliases d m sign.OpenBrace q h = ap begins_statement q
  first_statement aliases d m sign.Semicolon q h = ap begins_statement q
  first_statement aliases d m (sign.Keyword key.If) q h = ap begins_statement q
  first_statement aliases d m (sign.Keyword key.While) q h = ap begins_statement q
  first_statement aliases d m (sign.Keyword key.Do) q h = ap begins_statement q
  first_statement aliases d m (sign.Keyword key.For) q h = ap begins_statement q
  first_statement aliases d m (sign.Keyword key.Switch) q h = ap begins_statement q
  first_statement aliases d m (sign.Keyword key.Case) q h = ap begins_statement q
  first_statement aliases d m (sign.Keyword key.Default) q h = ap begins_statement q
  first_statement aliases d m (sign.Keyword key.Break) q h = ap begins_statement q
  first_statement aliases d m (sign.Keyword key.Continue) q h = ap begins_statement q
  first_statement aliases d m (sign.Keyword key.Goto) q h = ap begins_statement q
  first_statement aliases d m (sign.Keyword key.Return) q h = ap begins_statement q
  first_statement aliases d m sign.Name q h = ap begins_statement q
  first_statement aliases d m _ q h = simple_statement_begins (sign_at tokens aliases m) h
