-- The spans in statements are those of their tokens.
use Rattle.std.proofs.Common.{ℕ, ◌+◌, ◌<◌, ◌≤◌, ◌≡◌, ◌∙◌, ap, sym, refl, subst, List, [], ◌∷◌, ◌++◌, Bool, Option, append_assoc, arith}
use Rattle.tsa_base.specs.declared.token.Span.{Span}
use Rattle.tsa_base.specs.Tokens.{Lexeme}
use Rattle.tsa_tree.specs.declarations.Syntax.{Declaration}
use Rattle.tsa_tree.specs.expressions.Syntax.{Expression}
use Rattle.tsa_tree.specs.tokens.Signs.{Aliases, span_over}
use Rattle.tsa_tree.specs.statements.Syntax.{Simple, spanning, ForInit, Statement, Statements, locals_before}
use Rattle.tsa_tree.specs.statements.Spelling.{IsSimple, of_evaluation, of_assignment, of_step_behind, of_step_before, IsOptional}
use Rattle.tsa_tree.specs.statements.Spelling.{no_expression, an_expression, IsTest, of_test, IsForInit, of_no_init, of_simple_init}
use Rattle.tsa_tree.specs.statements.Spelling.{of_local_init, IsForStep, of_no_step, of_step, IsStatement, of_block, of_empty, of_simple}
use Rattle.tsa_tree.specs.statements.Spelling.{of_if, of_if_else, of_while, of_do, of_for, of_switch, of_case, of_default, of_label}
use Rattle.tsa_tree.specs.statements.Spelling.{of_break, of_continue, of_goto, of_return, IsBody, of_body, IsStatements, no_statement}
use Rattle.tsa_tree.specs.statements.Spelling.{of_locals_first, of_statement_first}
use Rattle.tsa_tree.specs.units.Spans.{spans_in_expression, spans_in_optional, spans_in_declaration, spans_in_declarations, spans_in_simple}
use Rattle.tsa_tree.specs.units.Spans.{spans_in_for_init, spans_in_for_step, spans_in_statement, spans_in_statements}
use Rattle.tsa_tree.proofs.declarations.SpansCover.{cover-local, cover-locals}
use Rattle.tsa_tree.proofs.expressions.TokenCounts.{ahead-expression, ahead-unary}
use Rattle.tsa_tree.proofs.expressions.SpansCover.{cover-expression, cover-unary}
use Rattle.tsa_tree.proofs.tokens.Covering.{Cover, no_span, over, token_at, name_at, cover-ends, cover-within, cover-both, cover-then}

spans-locals : (xs : List Declaration) (ys : Statements) → spans_in_statements (locals_before xs ys) ≡ spans_in_declarations xs ++ spans_in_statements ys
spans-locals [] ys = refl
spans-locals (x ∷ xs) ys =
    ap (λ zs. spans_in_declaration x ++ zs) (spans-locals xs ys)
    ∙ sym (append_assoc (spans_in_declaration x) (spans_in_declarations xs) (spans_in_statements ys))

module _ {tokens : List Lexeme} where
  -- a part with a span of its own, from its first token to its last
  whole : {a m n b : ℕ} {ss : List Span} → Cover tokens m n ss → a < b → a ≤ m → n ≤ b → Cover tokens a b (span_over tokens a b ∷ ss)
  whole {a = a} {b = b} r lt le le' = over a b (omega arith) lt (omega arith) (cover-within r le le')

module _ {tokens : List Lexeme} {aliases : Aliases} {fits : ℕ → Bool} where
  -- with the span of a statement, which has the `;` too, in place of its own one
  cover-spanning : {d : ℕ} {x : Simple} {a b : ℕ} → IsSimple tokens aliases fits d x a b → (e : ℕ) → b ≤ e
      → Cover tokens a e (spans_in_simple (spanning x (span_over tokens a e)))
  cover-spanning (of_evaluation x) e le =
      let lt = ahead-expression x in
      whole (cover-expression x) (omega arith) (omega arith) le
  cover-spanning (of_assignment l s r) e le =
      let lt = ahead-unary l in
      let lt' = ahead-expression r in
      whole (cover-then (cover-unary l) (omega arith) (cover-expression r)) (omega arith) (omega arith) le
  cover-spanning (of_step_behind {m = m} l s) e le =
      let lt = ahead-unary l in
      whole (cover-then {n = m} {b = m + 1} (cover-unary l) (omega arith) (token_at m (omega arith) (omega arith) (no_span (omega arith))))
      (omega arith) (omega arith) le
  cover-spanning (of_step_before {a = a} {b = b} s l) e le =
      let lt = ahead-unary l in
      whole {m = a} {n = b}
      (cover-both (cover-within (cover-unary l) (omega arith) (omega arith)) (token_at a (omega arith) (omega arith) (no_span (omega arith))))
      (omega arith) (omega arith) le

  cover-simple : {d : ℕ} {x : Simple} {a b : ℕ} → IsSimple tokens aliases fits d x a b → Cover tokens a b (spans_in_simple x)
  cover-simple {b = b} (of_evaluation x) = cover-spanning (of_evaluation x) b (omega arith)
  cover-simple {b = b} (of_assignment l s r) = cover-spanning (of_assignment l s r) b (omega arith)
  cover-simple (of_step_behind {m = m} l s) = cover-spanning (of_step_behind l s) (m + 1) (omega arith)
  cover-simple {b = b} (of_step_before s l) = cover-spanning (of_step_before s l) b (omega arith)

  cover-optional : {d : ℕ} {x : Option Expression} {a b : ℕ} → IsOptional tokens aliases fits d x a b → Cover tokens a b (spans_in_optional x)
  cover-optional no_expression = no_span (omega arith)
  cover-optional (an_expression x) = cover-expression x

  cover-test : {d : ℕ} {x : Expression} {a b : ℕ} → IsTest tokens aliases fits d x a b → Cover tokens a b (spans_in_expression x)
  cover-test (of_test o f x c) = cover-within (cover-expression x) (omega arith) (omega arith)

  cover-for-init : {d : ℕ} {x : ForInit} {a b : ℕ} → IsForInit tokens aliases fits d x a b → Cover tokens a b (spans_in_for_init x)
  cover-for-init of_no_init = no_span (omega arith)
  cover-for-init (of_simple_init x) = cover-simple x
  cover-for-init (of_local_init s x) = cover-local s x

  cover-for-step : {d : ℕ} {x : Option Simple} {a b : ℕ} → IsForStep tokens aliases fits d x a b → Cover tokens a b (spans_in_for_step x)
  cover-for-step of_no_step = no_span (omega arith)
  cover-for-step (of_step x) = cover-simple x

  mutual
    cover-statement : {d : ℕ} {x : Statement} {a b : ℕ} → IsStatement tokens aliases fits d x a b → Cover tokens a b (spans_in_statement x)
    cover-statement (of_block o f xs c) =
        let r = cover-statements xs in
        let le = cover-ends r in
        whole r (omega arith) (omega arith) (omega arith)
    cover-statement (of_empty {a = a} s) = over a (a + 1) (omega arith) (omega arith) (omega arith) (no_span (omega arith))
    cover-statement (of_simple {b = b} x s) = cover-spanning x (b + 1) (omega arith)
    cover-statement (of_if s t x) =
        let r = cover-then (cover-test t) (omega arith) (cover-body x) in
        let le = cover-ends r in
        whole r (omega arith) (omega arith) (omega arith)
    cover-statement (of_if_else s t x e l y) =
        let r = cover-then (cover-test t) (omega arith) (cover-then (cover-body x) (omega arith) (cover-body y)) in
        let le = cover-ends r in
        whole r (omega arith) (omega arith) (omega arith)
    cover-statement (of_while s t x) =
        let r = cover-then (cover-test t) (omega arith) (cover-body x) in
        let le = cover-ends r in
        whole r (omega arith) (omega arith) (omega arith)
    cover-statement (of_do s x w t e) =
        let r = cover-then (cover-body x) (omega arith) (cover-test t) in
        let le = cover-ends r in
        whole r (omega arith) (omega arith) (omega arith)
    cover-statement (of_for s o f i e x e' n c y) =
        let r = cover-then (cover-for-init i) (omega arith) (cover-then (cover-optional x) (omega arith)
        (cover-then (cover-for-step n) (omega arith) (cover-body y))) in
        let le = cover-ends r in
        whole r (omega arith) (omega arith) (omega arith)
    cover-statement (of_switch s t x) =
        let r = cover-then (cover-test t) (omega arith) (cover-body x) in
        let le = cover-ends r in
        whole r (omega arith) (omega arith) (omega arith)
    cover-statement (of_case s v c x) =
        let r = cover-then (cover-expression v) (omega arith) (cover-body x) in
        let le = cover-ends r in
        whole r (omega arith) (omega arith) (omega arith)
    cover-statement (of_default s c x) =
        let r = cover-body x in
        let le = cover-ends r in
        whole r (omega arith) (omega arith) (omega arith)
    cover-statement (of_label {a = a} {b = b} s c x) =
        let r = cover-body x in
        let le = cover-ends r in
        whole {m = a} {n = b} (name_at a (omega arith) (omega arith) (cover-within r (omega arith) (omega arith))) (omega arith) (omega arith) (omega arith)
    cover-statement (of_break {a = a} s e) = over a (a + 1 + 1) (omega arith) (omega arith) (omega arith) (no_span (omega arith))
    cover-statement (of_continue {a = a} s e) = over a (a + 1 + 1) (omega arith) (omega arith) (omega arith) (no_span (omega arith))
    cover-statement (of_goto {a = a} s n e) =
        over a (a + 1 + 1 + 1) (omega arith) (omega arith) (omega arith) (name_at (a + 1) (omega arith) (omega arith) (no_span (omega arith)))
    cover-statement (of_return s x e) =
        let r = cover-optional x in
        let le = cover-ends r in
        whole r (omega arith) (omega arith) (omega arith)

    cover-body : {d : ℕ} {x : Statement} {a b : ℕ} → IsBody tokens aliases fits d x a b → Cover tokens a b (spans_in_statement x)
    cover-body (of_body f x) = cover-statement x

    pub cover-statements : {d : ℕ} {xs : Statements} {a b : ℕ} → IsStatements tokens aliases fits d xs a b → Cover tokens a b (spans_in_statements xs)
    cover-statements no_statement = no_span (omega arith)
    cover-statements (of_locals_first {xs = xs} {ys = ys} {a = a} {b = b} ls s rest) =
        subst (Cover tokens a b) (sym (spans-locals xs ys)) (cover-then (cover-locals ls) (omega arith) (cover-statements rest))
    cover-statements (of_statement_first x rest) = cover-then (cover-statement x) (omega arith) (cover-statements rest)
