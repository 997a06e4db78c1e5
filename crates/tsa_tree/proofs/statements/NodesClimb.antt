-- The nodes of statements stand in the order of the text.
use Rattle.std.proofs.Common.{ℕ, ◌+◌, ◌<◌, ◌≤◌, ◌≡◌, ◌∙◌, ap, sym, refl, subst, List, [], ◌∷◌, ◌++◌, length, Bool, Option, append_assoc}
use Rattle.std.proofs.Common.{arith}
use Rattle.tsa_base.specs.Tokens.{Lexeme}
use Rattle.tsa_tree.specs.declarations.Syntax.{Declaration}
use Rattle.tsa_tree.specs.expressions.Syntax.{Expression}
use Rattle.tsa_tree.specs.tokens.Signs.{Aliases, span_over}
use Rattle.tsa_tree.specs.statements.Syntax.{Simple, spanning, ForInit, Statement, Statements, locals_before}
use Rattle.tsa_tree.specs.statements.Spelling.{IsSimple, of_evaluation, of_assignment, of_step_behind, of_step_before, IsOptional}
use Rattle.tsa_tree.specs.statements.Spelling.{no_expression, an_expression, IsTest, of_test, IsForInit, of_no_init, of_simple_init}
use Rattle.tsa_tree.specs.statements.Spelling.{of_local_init, IsForStep, of_no_step, of_step, IsStatement, of_block, of_empty, of_simple}
use Rattle.tsa_tree.specs.statements.Spelling.{of_if, of_if_else, of_while, of_do, of_for, of_switch, of_case, of_default, of_label}
use Rattle.tsa_tree.specs.statements.Spelling.{of_break, of_continue, of_goto, of_return, IsBody, of_body, IsStatements, no_statement}
use Rattle.tsa_tree.specs.statements.Spelling.{of_locals_first, of_statement_first}
use Rattle.tsa_tree.specs.units.Order.{places_in_expression, places_in_optional, places_in_declaration, places_in_declarations}
use Rattle.tsa_tree.specs.units.Order.{places_in_simple, places_in_for_init, places_in_for_step, places_in_statement, places_in_statements}
use Rattle.tsa_tree.proofs.declarations.NodesClimb.{climbs-local, climbs-locals}
use Rattle.tsa_tree.proofs.expressions.TokenCounts.{ahead-expression, ahead-unary}
use Rattle.tsa_tree.proofs.expressions.NodesClimb.{climbs-expression, climbs-unary}
use Rattle.tsa_tree.proofs.tokens.Climbing.{Climbs, no_place, place_at, climbs-ends, climbs-within, climbs-then, climbs-over, climbs-alone}
use Rattle.tsa_tree.proofs.tokens.Climbing.{climbs-operands, climbs-step}
use Rattle.tsa_tree.proofs.tokens.Places.{AreInOrder}

places-locals : (xs : List Declaration) (ys : Statements) → places_in_statements (locals_before xs ys) ≡ places_in_declarations xs ++ places_in_statements ys
places-locals [] ys = refl
places-locals (x ∷ xs) ys =
    ap (λ zs. places_in_declaration x ++ zs) (places-locals xs ys)
    ∙ sym (append_assoc (places_in_declaration x) (places_in_declarations xs) (places_in_statements ys))

-- places that climb where the last of their tokens is there
abbrev Climb : List Lexeme → (a b : ℕ) → List ℕ → Type 0
Climb tokens a b xs = b ≤ length tokens → Climbs tokens a b xs

module _ {tokens : List Lexeme} where
  climb-then : {a m n b : ℕ} {xs ys : List ℕ} → Climb tokens a m xs → m ≤ n → Climb tokens n b ys → Climb tokens a b (xs ++ ys)
  climb-then r le s there =
      let last = s there in
      let end = climbs-ends last in
      climbs-then (r (omega arith)) le last

  -- a part with a span of its own, from its first token to its last
  whole : {a m n b : ℕ} {xs : List ℕ} → Climb tokens m n xs → a < m → n ≤ b → Climb tokens a b ((span_over tokens a b).from ∷ xs)
  whole {a = a} {b = b} r lt le there =
      let s = r (omega arith) in
      let end = climbs-ends s in
      climbs-over a b s (omega arith) (omega arith) (omega arith) le

module _ {text : List ℕ} {tokens : List Lexeme} (order : AreInOrder text tokens) {aliases : Aliases} {fits : ℕ → Bool} where
  -- with the span of a statement, which has the `;` too, in place of its own one
  climb-spanning : {d : ℕ} {x : Simple} {a b : ℕ} → IsSimple tokens aliases fits d x a b → (e : ℕ) → b ≤ e
      → Climb tokens a e (places_in_simple (spanning x (span_over tokens a e)))
  climb-spanning {a = a} (of_evaluation x) e le there =
      let lt = ahead-expression x in
      climbs-over a e (climbs-expression x) (omega arith) (omega arith) (omega arith) le
  climb-spanning {a = a} (of_assignment l s r) e le there =
      let lt = ahead-unary l in
      let lt' = ahead-expression r in
      climbs-over a e (climbs-operands order e (omega arith) (climbs-unary l) (omega arith) (omega arith) (climbs-expression r))
      (omega arith) (omega arith) (omega arith) le
  climb-spanning {a = a} (of_step_behind {m = m} l s) e le there =
      let lt = ahead-unary l in
      climbs-over a e
      (climbs-operands order {b = m + 1} e (omega arith) (climbs-unary l) (omega arith) lt (place_at m (omega arith) (omega arith) (no_place (omega arith))))
      (omega arith) (omega arith) (omega arith) le
  climb-spanning {a = a} (of_step_before s l) e le there =
      let lt = ahead-unary l in
      climbs-over a e (climbs-step e (climbs-unary l)) (omega arith) (omega arith) (omega arith) le

  climb-simple : {d : ℕ} {x : Simple} {a b : ℕ} → IsSimple tokens aliases fits d x a b → Climb tokens a b (places_in_simple x)
  climb-simple {b = b} (of_evaluation x) = climb-spanning (of_evaluation x) b (omega arith)
  climb-simple {b = b} (of_assignment l s r) = climb-spanning (of_assignment l s r) b (omega arith)
  climb-simple (of_step_behind {m = m} l s) = climb-spanning (of_step_behind l s) (m + 1) (omega arith)
  climb-simple {b = b} (of_step_before s l) = climb-spanning (of_step_before s l) b (omega arith)

  climb-optional : {d : ℕ} {x : Option Expression} {a b : ℕ} → IsOptional tokens aliases fits d x a b → Climb tokens a b (places_in_optional x)
  climb-optional no_expression there = no_place (omega arith)
  climb-optional (an_expression x) there = climbs-expression x

  climb-test : {d : ℕ} {x : Expression} {a b : ℕ} → IsTest tokens aliases fits d x a b → Climb tokens a b (places_in_expression x)
  climb-test (of_test o f x c) there = climbs-within (climbs-expression x) (omega arith) (omega arith)

  climb-for-init : {d : ℕ} {x : ForInit} {a b : ℕ} → IsForInit tokens aliases fits d x a b → Climb tokens a b (places_in_for_init x)
  climb-for-init of_no_init there = no_place (omega arith)
  climb-for-init (of_simple_init x) there = climb-simple x there
  climb-for-init (of_local_init t x) there = climbs-local t x

  climb-for-step : {d : ℕ} {x : Option Simple} {a b : ℕ} → IsForStep tokens aliases fits d x a b → Climb tokens a b (places_in_for_step x)
  climb-for-step of_no_step there = no_place (omega arith)
  climb-for-step (of_step x) there = climb-simple x there

  mutual
    climb-statement : {d : ℕ} {x : Statement} {a b : ℕ} → IsStatement tokens aliases fits d x a b → Climb tokens a b (places_in_statement x)
    climb-statement (of_block o f xs c) = whole (climb-statements xs) (omega arith) (omega arith)
    climb-statement (of_empty {a = a} s) = λ there. climbs-alone a (a + 1) (omega arith) (omega arith)
    climb-statement (of_simple {b = b} x s) = climb-spanning x (b + 1) (omega arith)
    climb-statement (of_if s t x) = whole (climb-then (climb-test t) (omega arith) (climb-body x)) (omega arith) (omega arith)
    climb-statement (of_if_else s t x e l y) =
        whole (climb-then (climb-test t) (omega arith) (climb-then (climb-body x) (omega arith) (climb-body y))) (omega arith) (omega arith)
    climb-statement (of_while s t x) = whole (climb-then (climb-test t) (omega arith) (climb-body x)) (omega arith) (omega arith)
    climb-statement (of_do s x w t e) = whole (climb-then (climb-body x) (omega arith) (climb-test t)) (omega arith) (omega arith)
    climb-statement (of_for s o f i e x e' n c y) =
        whole (climb-then (climb-for-init i) (omega arith) (climb-then (climb-optional x) (omega arith)
        (climb-then (climb-for-step n) (omega arith) (climb-body y)))) (omega arith) (omega arith)
    climb-statement (of_switch s t x) = whole (climb-then (climb-test t) (omega arith) (climb-body x)) (omega arith) (omega arith)
    climb-statement (of_case s v c x) = whole (climb-then (λ there. climbs-expression v) (omega arith) (climb-body x)) (omega arith) (omega arith)
    climb-statement (of_default s c x) = whole (climb-body x) (omega arith) (omega arith)
    climb-statement (of_label s c x) = whole (climb-body x) (omega arith) (omega arith)
    climb-statement (of_break {a = a} s e) = λ there. climbs-alone a (a + 1 + 1) (omega arith) (omega arith)
    climb-statement (of_continue {a = a} s e) = λ there. climbs-alone a (a + 1 + 1) (omega arith) (omega arith)
    climb-statement (of_goto {a = a} s n e) = λ there. climbs-alone a (a + 1 + 1 + 1) (omega arith) (omega arith)
    climb-statement (of_return s x e) = whole (climb-optional x) (omega arith) (omega arith)

    climb-body : {d : ℕ} {x : Statement} {a b : ℕ} → IsBody tokens aliases fits d x a b → Climb tokens a b (places_in_statement x)
    climb-body (of_body f x) there = climb-statement x there

    pub climb-statements : {d : ℕ} {xs : Statements} {a b : ℕ} → IsStatements tokens aliases fits d xs a b → b ≤ length tokens
        → Climbs tokens a b (places_in_statements xs)
    climb-statements no_statement there = no_place (omega arith)
    climb-statements (of_locals_first {xs = xs} {ys = ys} {a = a} {b = b} ls s rest) there =
        subst (Climbs tokens a b) (sym (places-locals xs ys)) (climbs-then (climbs-locals ls) (omega arith) (climb-statements rest there))
    climb-statements (of_statement_first x rest) there = climb-then (climb-statement x) (omega arith) (climb-statements rest) there
