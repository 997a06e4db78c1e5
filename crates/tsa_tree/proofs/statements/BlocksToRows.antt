-- The rows spell whatever statements and blocks the productions spell.
use Rattle.std.proofs.Common.{ℕ, ◌+◌, ◌≡◌, ◌∙◌, ap, sym, subst, refl, Bool, true, false, Option, Some, None, List, arith}
use Rattle.std.proofs.lemmas.Bool.{eq-eqb}
use Rattle.tsa_base.specs.Tokens.{Lexeme}
use Rattle.tsa_tree.specs.declared.sign.Keyword.{Keyword}
use Rattle.tsa_tree.specs.declared.sign.Keyword.TheVariants as key
use Rattle.tsa_tree.specs.declared.sign.Sign.{Sign}
use Rattle.tsa_tree.specs.declared.sign.Sign.TheVariants as sign
use Rattle.tsa_tree.specs.expressions.Syntax.{Expression}
use Rattle.tsa_tree.specs.tokens.Signs.{Aliases, sign_at, span_over, identifier_at}
use Rattle.tsa_tree.specs.statements.Spelling.{IsOptional, no_expression, an_expression, IsTest, of_test, IsForInit, of_no_init}
use Rattle.tsa_tree.specs.statements.Spelling.{of_simple_init, of_local_init, IsForStep, of_no_step, of_step, IsStatement, of_block}
use Rattle.tsa_tree.specs.statements.Spelling.{of_empty, of_simple, of_if, of_if_else, of_while, of_do, of_for, of_switch, of_case}
use Rattle.tsa_tree.specs.statements.Spelling.{of_default, of_label, of_break, of_continue, of_goto, of_return, IsBody, of_body}
use Rattle.tsa_tree.specs.statements.Spelling.{IsStatements, no_statement, of_locals_first, of_statement_first}
use Rattle.tsa_tree.specs.statements.Syntax.{Simple, ForInit, Statement, Statements, ends_short}
use Rattle.tsa_tree.specs.statements.Syntax as plain
use Rattle.tsa_tree.specs.Rows.{Sort, a_for_init, a_statement, some_statements, Node, Call, for_init, statement, statements, a_colon}
use Rattle.tsa_tree.specs.Rows.{a_semicolon, a_keyword, sees, is_keyword, keyword_number, Row, body, test, value_or_none, if_end, for_end}
use Rattle.tsa_tree.specs.Rows.{simple_statement, statement_row, rule}
use Rattle.tsa_tree.proofs.tokens.Facts.{is_plain}
use Rattle.tsa_tree.proofs.RowFacts.{begins_simple}
use Rattle.tsa_tree.proofs.tokens.ProductionSigns.{seen}
use Rattle.tsa_tree.proofs.declarations.Facts.{not_false}
use Rattle.tsa_tree.proofs.expressions.ToRows.{expression_rows}
use Rattle.tsa_tree.proofs.declarations.ToRows.{specifier_rows, variable_rows, locals_rows}
use Rattle.tsa_tree.proofs.statements.SimplesToRows.{simple_starts, no_label, simple_rows}
use Rattle.tsa_grammar.specs.Form.{done, token}
use Rattle.tsa_grammar.specs.Spelling as forms
use Rattle.tsa_grammar.specs.Spelling.{by_rule, goes_done, goes_token, goes_part, goes_limit, goes_only, goes_left, goes_right}

module _ (tokens : List Lexeme) (aliases : Aliases) (fits : ℕ → Bool) where
  abbrev Spells : (s : Sort) → Call s → Node s → (a b : ℕ) → Type 0
  Spells s c x a b = forms.Spells (rule tokens) (sees tokens) fits s c x a b

  abbrev Goes : (s : Sort) → Row s → Node s → (a b : ℕ) → Type 0
  Goes s f x a b = forms.Goes (rule tokens) (sees tokens) fits s f x a b

  plain_semicolon : (n : ℕ) → sign_at tokens aliases n ≡ sign.Semicolon → is_plain (sign_at tokens aliases n) ≡ true
  plain_semicolon n e = ap is_plain e

  -- a keyword is seen where its sign stands
  keyword : (w : Keyword) (n : ℕ) → sign_at tokens aliases n ≡ sign.Keyword w → sees tokens (a_keyword aliases w) n ≡ true
  keyword w n e = ap (is_keyword w) e ∙ eq-eqb (keyword_number w) (keyword_number w) refl

  -- what an expression in parentheses, an expression or nothing, and a body go on with
  test_goes : {d : ℕ} {x : Expression} {m n : ℕ} → IsTest tokens aliases fits d x m n → (end : Expression → ℕ → Row a_statement)
      → (y : Statement) (b : ℕ) → Goes a_statement (end x n) y n b → Goes a_statement (test tokens aliases d m end) y m b
  test_goes {m = m} (of_test {b = n} o fit i close) end y b g =
      goes_left (goes_limit fit (goes_token (seen tokens aliases 5 m sign.Open o refl)
      (goes_part (expression_rows tokens aliases fits i (omega arith)) (goes_token (seen tokens aliases 6 n sign.Close close refl) g))))

  value_goes : {d : ℕ} {x : Option Expression} {m n : ℕ} → IsOptional tokens aliases fits d x m n → sign_at tokens aliases n ≡ sign.Semicolon
      → (end : Option Expression → ℕ → Row a_statement) → (y : Statement) (b : ℕ) → Goes a_statement (end x (n + 1)) y (n + 1) b
      → Goes a_statement (value_or_none tokens aliases d m end) y m b
  value_goes {m = m} no_expression s end y b g = goes_left (goes_token (seen tokens aliases 18 m sign.Semicolon s refl) g)
  value_goes {n = n} (an_expression i) s end y b g =
      goes_right (goes_part (expression_rows tokens aliases fits i (omega arith)) (goes_token (seen tokens aliases 18 n sign.Semicolon s refl) g))

  -- The rows spell what stands before the first `;` of a `for`.
  for_init_rows : {d : ℕ} {x : ForInit} {a n : ℕ} → IsForInit tokens aliases fits d x a n → sign_at tokens aliases n ≡ sign.Semicolon
      → Spells a_for_init (for_init aliases d) x a (n + 1)
  for_init_rows {a = a} of_no_init s = by_rule (goes_left (goes_token (seen tokens aliases 18 a sign.Semicolon s refl) goes_done))
  for_init_rows {d = d} {a = a} {n = n} (of_simple_init {x = x} i) s =
      let r = simple_rows tokens aliases fits d a x n i (plain_semicolon n s) in
      by_rule (goes_right (goes_right (goes_part r.1 (goes_token (seen tokens aliases 18 n sign.Semicolon s refl) goes_done))))
  for_init_rows {n = n} (of_local_init t i) s =
      by_rule (goes_right (goes_left (goes_part (specifier_rows tokens aliases fits t) (goes_part (variable_rows tokens aliases fits i)
      (goes_token (seen tokens aliases 18 n sign.Semicolon s refl) goes_done)))))

  -- A statement is spelled by the row of the sign at its first token.
  by_sign : (d a b : ℕ) (x : Statement) (s : Sign) → sign_at tokens aliases a ≡ s
      → Goes a_statement (statement_row tokens aliases d a s) x a b → Spells a_statement (statement aliases d) x a b
  by_sign d a b x s e g = by_rule (subst (λ s. Goes a_statement (statement_row tokens aliases d a s) x a b) (sym e) g)

  -- A simple statement has the row of a name, or the row of every other token.
  simple_goes : (d a b : ℕ) (x : Statement) (s : Sign) → sign_at tokens aliases a ≡ s → begins_simple s ≡ true
      → (s ≡ sign.Name → sees tokens (a_colon aliases) (a + 1) ≡ false)
      → Goes a_statement (simple_statement tokens aliases d a) x a b → Goes a_statement (statement_row tokens aliases d a s) x a b
  simple_goes d a b x sign.Name e h label g = goes_right (goes_only (not_false (sees tokens (a_colon aliases) (a + 1)) (label refl)) g)
  simple_goes d a b x sign.OpenBrace e h label g = cc
  simple_goes d a b x sign.Semicolon e h label g = cc
  simple_goes d a b x (sign.Keyword w) e h label g = cc
  simple_goes d a b x _ e h label g = g

  -- after the second `;` of a `for`, where its body goes on
  for_end_goes : (d a : ℕ) (i : ForInit) (x : Option Expression) (s : Option Simple) (n e : ℕ) (inner : Statement) (b : ℕ)
      → IsForStep tokens aliases fits (d + 1) s n e → sign_at tokens aliases e ≡ sign.Close
      → ((end : Statement → ℕ → Row a_statement) (y : Statement) → Goes a_statement (end inner b) y b b
      → Goes a_statement (body tokens aliases d (e + 1) end) y (e + 1) b)
      → Goes a_statement (for_end tokens aliases d a i x n) (plain.for_loop i x s inner (span_over tokens a b)) n b
  for_end_goes d a i x s n e inner b of_no_step close go =
      goes_left (goes_token (seen tokens aliases 6 n sign.Close close refl)
      (go (λ inner e. done (plain.for_loop i x None inner (span_over tokens a e))) (plain.for_loop i x None inner (span_over tokens a b)) goes_done))
  for_end_goes d a i x s n e inner b (of_step {x = y} st) close go =
      let r = simple_rows tokens aliases fits (d + 1) n y e st (ap is_plain close) in
      goes_right (goes_part r.1 (goes_token (seen tokens aliases 6 e sign.Close close refl)
      (go (λ inner f. done (plain.for_loop i x (Some y) inner (span_over tokens a f)))
      (plain.for_loop i x (Some y) inner (span_over tokens a b)) goes_done)))

  mutual
    body_goes : {d : ℕ} {x : Statement} {m n : ℕ} → IsBody tokens aliases fits d x m n → (end : Statement → ℕ → Row a_statement)
        → (y : Statement) (b : ℕ) → Goes a_statement (end x n) y n b → Goes a_statement (body tokens aliases d m end) y m b
    body_goes (of_body fit i) end y b g = goes_left (goes_limit fit (goes_part (statement_rows i) g))

    -- The rows spell a statement.
    pub statement_rows : {d : ℕ} {x : Statement} {a b : ℕ} → IsStatement tokens aliases fits d x a b
        → Spells a_statement (statement aliases d) x a b
    statement_rows {d = d} {x = x} {a = a} {b = b} (of_block q fit i close) =
        by_sign d a b x sign.OpenBrace q (goes_limit fit (goes_token (seen tokens aliases 16 a sign.OpenBrace q refl)
        (goes_part (statements_rows i close) goes_done)))
    statement_rows {d = d} {x = x} {a = a} {b = b} (of_empty q) =
        by_sign d a b x sign.Semicolon q (goes_token (seen tokens aliases 18 a sign.Semicolon q refl) goes_done)
    statement_rows {d = d} {x = x} {a = a} {b = b} (of_simple {x = y} {b = n} i s) =
        let r = simple_rows tokens aliases fits d a y n i (plain_semicolon n s) in
        by_sign d a b x (sign_at tokens aliases a) refl
        (simple_goes d a b x (sign_at tokens aliases a) refl (simple_starts tokens aliases fits i) (λ e. no_label tokens aliases fits i e s)
        (goes_part r.1 (goes_token (seen tokens aliases 18 n sign.Semicolon s refl) goes_done)))
    statement_rows {d = d} {x = y} {a = a} {b = b} (of_if {x = x} {arm = arm} {m = m} q t i) =
        by_sign d a b y (sign.Keyword key.If) q (goes_token (keyword key.If a q)
        (test_goes t (λ x n. body tokens aliases d n (λ arm e. if_end tokens aliases d a x arm e)) y b
        (body_goes i (λ arm e. if_end tokens aliases d a x arm e) y b (goes_right goes_done))))
    statement_rows {d = d} {x = y} {a = a} {b = b} (of_if_else {x = x} {arm = arm} {other = other} {m = m} {n = n} q t i long else_ j) =
        by_sign d a b y (sign.Keyword key.If) q (goes_token (keyword key.If a q)
        (test_goes t (λ x n. body tokens aliases d n (λ arm e. if_end tokens aliases d a x arm e)) y b
        (body_goes i (λ arm e. if_end tokens aliases d a x arm e) y b
        (goes_left (goes_only (not_false (ends_short arm) long) (goes_token (keyword key.Else n else_)
        (body_goes j (λ other e. done (plain.if_else x arm other (span_over tokens a e))) y b goes_done)))))))
    statement_rows {d = d} {x = y} {a = a} {b = b} (of_while {x = x} q t i) =
        by_sign d a b y (sign.Keyword key.While) q (goes_token (keyword key.While a q)
        (test_goes t (λ x n. body tokens aliases d n (λ inner e. done (plain.while_loop x inner (span_over tokens a e)))) y b
        (body_goes i (λ inner e. done (plain.while_loop x inner (span_over tokens a e))) y b goes_done)))
    statement_rows {d = d} {x = y} {a = a} {b = b} (of_do {x = x} {body = inner} {m = m} {b = n} q i while_ t s) =
        by_sign d a b y (sign.Keyword key.Do) q (goes_token (keyword key.Do a q)
        (body_goes i (λ inner n. token (a_keyword aliases key.While) (test tokens aliases d (n + 1) (λ x e.
        token (a_semicolon aliases) (done (plain.do_loop inner x (span_over tokens a (e + 1))))))) y b
        (goes_token (keyword key.While m while_)
        (test_goes t (λ x e. token (a_semicolon aliases) (done (plain.do_loop inner x (span_over tokens a (e + 1))))) y b
        (goes_token (seen tokens aliases 18 n sign.Semicolon s refl) goes_done)))))
    statement_rows {d = d} {x = y} {a = a} {b = b} (of_for {i = i} {x = x} {s = s} {body = inner} {m = m} {n = n} {e = e} q o fit init s1 t s2 step close j) =
        by_sign d a b y (sign.Keyword key.For) q (goes_token (keyword key.For a q)
        (goes_left (goes_limit fit (goes_token (seen tokens aliases 5 (a + 1) sign.Open o refl)
        (goes_part (for_init_rows init s1)
        (value_goes t s2 (λ x e. for_end tokens aliases d a i x e) y b (for_end_goes d a i x s (n + 1) e inner b step close (λ end y g. body_goes j end y b g))))))))
    statement_rows {d = d} {x = y} {a = a} {b = b} (of_switch {x = x} q t i) =
        by_sign d a b y (sign.Keyword key.Switch) q (goes_token (keyword key.Switch a q)
        (test_goes t (λ x n. body tokens aliases d n (λ inner e. done (plain.switch x inner (span_over tokens a e)))) y b
        (body_goes i (λ inner e. done (plain.switch x inner (span_over tokens a e))) y b goes_done)))
    statement_rows {d = d} {x = y} {a = a} {b = b} (of_case {x = x} {m = m} q i colon j) =
        by_sign d a b y (sign.Keyword key.Case) q (goes_token (keyword key.Case a q)
        (goes_part (expression_rows tokens aliases fits i (omega arith)) (goes_token (seen tokens aliases 19 m sign.Colon colon refl)
        (body_goes j (λ inner e. done (plain.case x inner (span_over tokens a e))) y b goes_done))))
    statement_rows {d = d} {x = y} {a = a} {b = b} (of_default q colon j) =
        by_sign d a b y (sign.Keyword key.Default) q (goes_token (keyword key.Default a q)
        (goes_token (seen tokens aliases 19 (a + 1) sign.Colon colon refl)
        (body_goes j (λ inner e. done (plain.otherwise inner (span_over tokens a e))) y b goes_done)))
    statement_rows {d = d} {x = y} {a = a} {b = b} (of_label q colon j) =
        by_sign d a b y sign.Name q (goes_left (goes_only (seen tokens aliases 19 (a + 1) sign.Colon colon refl)
        (goes_token (seen tokens aliases 2 a sign.Name q refl) (goes_token (seen tokens aliases 19 (a + 1) sign.Colon colon refl)
        (body_goes j (λ inner e. done (plain.label (identifier_at tokens a) inner (span_over tokens a e))) y b goes_done)))))
    statement_rows {d = d} {x = y} {a = a} {b = b} (of_break q s) =
        by_sign d a b y (sign.Keyword key.Break) q (goes_token (keyword key.Break a q)
        (goes_token (seen tokens aliases 18 (a + 1) sign.Semicolon s refl) goes_done))
    statement_rows {d = d} {x = y} {a = a} {b = b} (of_continue q s) =
        by_sign d a b y (sign.Keyword key.Continue) q (goes_token (keyword key.Continue a q)
        (goes_token (seen tokens aliases 18 (a + 1) sign.Semicolon s refl) goes_done))
    statement_rows {d = d} {x = y} {a = a} {b = b} (of_goto q name s) =
        by_sign d a b y (sign.Keyword key.Goto) q (goes_token (keyword key.Goto a q)
        (goes_token (seen tokens aliases 2 (a + 1) sign.Name name refl)
        (goes_token (seen tokens aliases 18 (a + 1 + 1) sign.Semicolon s refl) goes_done)))
    statement_rows {d = d} {x = y} {a = a} {b = b} (of_return q i s) =
        by_sign d a b y (sign.Keyword key.Return) q (goes_token (keyword key.Return a q)
        (value_goes i s (λ x n. done (plain.return x (span_over tokens a n))) y b goes_done))

    -- The rows spell what stands in a block, with the brace that closes it.
    pub statements_rows : {d : ℕ} {xs : Statements} {a n : ℕ} → IsStatements tokens aliases fits d xs a n
        → sign_at tokens aliases n ≡ sign.CloseBrace → Spells some_statements (statements aliases d) xs a (n + 1)
    statements_rows {a = a} no_statement close = by_rule (goes_left (goes_token (seen tokens aliases 17 a sign.CloseBrace close refl) goes_done))
    statements_rows (of_locals_first {m = m} i s rest) close =
        by_rule (goes_right (goes_left (goes_part (locals_rows tokens aliases fits i) (goes_token (seen tokens aliases 18 m sign.Semicolon s refl)
        (goes_part (statements_rows rest close) goes_done)))))
    statements_rows (of_statement_first i rest) close =
        by_rule (goes_right (goes_right (goes_part (statement_rows i) (goes_part (statements_rows rest close) goes_done))))
