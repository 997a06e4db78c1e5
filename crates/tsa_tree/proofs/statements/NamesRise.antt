-- The names in statements stand one after the other.
use Rattle.std.proofs.Common.{ℕ, ◌+◌, ◌≡◌, ◌∙◌, ap, sym, refl, subst, List, [], ◌∷◌, ◌++◌, Bool, Option, None, append_assoc, arith}
use Rattle.tsa_base.specs.declared.token.Span.{Span}
use Rattle.tsa_base.specs.Tokens.{Lexeme}
use Rattle.tsa_tree.specs.declarations.Syntax.{Declaration}
use Rattle.tsa_tree.specs.expressions.Syntax.{Identifier, Expression}
use Rattle.tsa_tree.specs.tokens.Signs.{Aliases}
use Rattle.tsa_tree.specs.statements.Syntax.{Simple, evaluation, assignment, spanning, ForInit, Statement, Statements, locals_before}
use Rattle.tsa_tree.specs.statements.Spelling.{IsSimple, of_evaluation, of_assignment, of_step_behind, of_step_before, IsOptional}
use Rattle.tsa_tree.specs.statements.Spelling.{no_expression, an_expression, IsTest, of_test, IsForInit, of_no_init, of_simple_init}
use Rattle.tsa_tree.specs.statements.Spelling.{of_local_init, IsForStep, of_no_step, of_step, IsStatement, of_block, of_empty, of_simple}
use Rattle.tsa_tree.specs.statements.Spelling.{of_if, of_if_else, of_while, of_do, of_for, of_switch, of_case, of_default, of_label}
use Rattle.tsa_tree.specs.statements.Spelling.{of_break, of_continue, of_goto, of_return, IsBody, of_body, IsStatements, no_statement}
use Rattle.tsa_tree.specs.statements.Spelling.{of_locals_first, of_statement_first}
use Rattle.tsa_tree.specs.units.Names.{names_in_expression, names_in_optional, base_in, names_in_declaration, names_in_declarations}
use Rattle.tsa_tree.specs.units.Names.{names_in_simple, names_in_for_init, names_in_for_step, base_in_statement, names_in_statement}
use Rattle.tsa_tree.specs.units.Names.{names_in_statements}
use Rattle.tsa_tree.proofs.declarations.NamesRise.{last_base, rises-local, rises-locals}
use Rattle.tsa_tree.proofs.expressions.NamesRise.{rises-expression, rises-unary}
use Rattle.tsa_tree.proofs.tokens.Rising.{Rises, no_name, name_at, rises-within, rises-then, rises-here, rises-last}

names-locals : (before : Option Identifier) (xs : List Declaration) (ys : Statements)
    → names_in_statements before (locals_before xs ys) ≡ names_in_declarations before xs ++ names_in_statements (last_base before xs) ys
names-locals before [] ys = refl
names-locals before (x ∷ xs) ys =
    ap (λ zs. names_in_declaration before x ++ zs) (names-locals (base_in x) xs ys)
    ∙ sym (append_assoc (names_in_declaration before x) (names_in_declarations (base_in x) xs) (names_in_statements (last_base (base_in x) xs) ys))

names-spanning : (x : Simple) (span : Span) → names_in_simple x ≡ names_in_simple (spanning x span)
names-spanning (evaluation tree other) span = refl
names-spanning (assignment left op right other) span = refl

module _ {tokens : List Lexeme} {aliases : Aliases} {fits : ℕ → Bool} where
  rises-simple : {d : ℕ} {x : Simple} {a b : ℕ} → IsSimple tokens aliases fits d x a b → Rises tokens a b (names_in_simple x)
  rises-simple (of_evaluation x) = rises-expression x
  rises-simple (of_assignment l s r) = rises-then (rises-unary l) (omega arith) (rises-expression r)
  rises-simple (of_step_behind l s) = rises-last (rises-within (rises-unary l) (omega arith) (omega arith))
  rises-simple (of_step_before s l) = rises-last (rises-within (rises-unary l) (omega arith) (omega arith))

  rises-optional : {d : ℕ} {x : Option Expression} {a b : ℕ} → IsOptional tokens aliases fits d x a b → Rises tokens a b (names_in_optional x)
  rises-optional no_expression = no_name (omega arith)
  rises-optional (an_expression x) = rises-expression x

  rises-test : {d : ℕ} {x : Expression} {a b : ℕ} → IsTest tokens aliases fits d x a b → Rises tokens a b (names_in_expression x)
  rises-test (of_test o f x c) = rises-within (rises-expression x) (omega arith) (omega arith)

  rises-for-init : {d : ℕ} {x : ForInit} {a b : ℕ} → IsForInit tokens aliases fits d x a b → Rises tokens a b (names_in_for_init x)
  rises-for-init of_no_init = no_name (omega arith)
  rises-for-init (of_simple_init x) = rises-simple x
  rises-for-init (of_local_init s x) = rises-local s x None

  rises-for-step : {d : ℕ} {x : Option Simple} {a b : ℕ} → IsForStep tokens aliases fits d x a b → Rises tokens a b (names_in_for_step x)
  rises-for-step of_no_step = no_name (omega arith)
  rises-for-step (of_step x) = rises-simple x

  mutual
    rises-statement : {d : ℕ} {x : Statement} {a b : ℕ} → IsStatement tokens aliases fits d x a b → (before : Option Identifier)
        → Rises tokens a b (names_in_statement before x)
    rises-statement (of_block o f xs c) before = rises-within (rises-statements xs None) (omega arith) (omega arith)
    rises-statement (of_empty s) before = no_name (omega arith)
    rises-statement (of_simple {x = x} {a = a} {b = b} i s) before =
        subst (Rises tokens a (b + 1)) (names-spanning x _) (rises-within (rises-simple i) (omega arith) (omega arith))
    rises-statement (of_if s t x) before = rises-within (rises-then (rises-test t) (omega arith) (rises-body x)) (omega arith) (omega arith)
    rises-statement (of_if_else s t x e l y) before =
        rises-within (rises-then (rises-test t) (omega arith) (rises-then (rises-body x) (omega arith) (rises-body y))) (omega arith) (omega arith)
    rises-statement (of_while s t x) before = rises-within (rises-then (rises-test t) (omega arith) (rises-body x)) (omega arith) (omega arith)
    rises-statement (of_do s x w t e) before = rises-within (rises-then (rises-body x) (omega arith) (rises-test t)) (omega arith) (omega arith)
    rises-statement (of_for s o f i e x e' n c y) before =
        rises-within (rises-then (rises-for-init i) (omega arith) (rises-then (rises-optional x) (omega arith)
        (rises-then (rises-for-step n) (omega arith) (rises-body y)))) (omega arith) (omega arith)
    rises-statement (of_switch s t x) before = rises-within (rises-then (rises-test t) (omega arith) (rises-body x)) (omega arith) (omega arith)
    rises-statement (of_case s v c x) before = rises-within (rises-then (rises-expression v) (omega arith) (rises-body x)) (omega arith) (omega arith)
    rises-statement (of_default s c x) before = rises-within (rises-body x) (omega arith) (omega arith)
    rises-statement (of_label {a = a} s c x) before = name_at a (omega arith) (rises-within (rises-body x) (omega arith) (omega arith))
    rises-statement (of_break s e) before = no_name (omega arith)
    rises-statement (of_continue s e) before = no_name (omega arith)
    rises-statement (of_goto {a = a} s n e) before = rises-within (rises-here (a + 1)) (omega arith) (omega arith)
    rises-statement (of_return s x e) before = rises-within (rises-optional x) (omega arith) (omega arith)

    rises-body : {d : ℕ} {x : Statement} {a b : ℕ} → IsBody tokens aliases fits d x a b → Rises tokens a b (names_in_statement None x)
    rises-body (of_body f x) = rises-statement x None

    pub rises-statements : {d : ℕ} {xs : Statements} {a b : ℕ} → IsStatements tokens aliases fits d xs a b → (before : Option Identifier)
        → Rises tokens a b (names_in_statements before xs)
    rises-statements no_statement before = no_name (omega arith)
    rises-statements (of_locals_first {xs = xs} {ys = ys} {a = a} {b = b} ls s rest) before =
        subst (Rises tokens a b) (sym (names-locals before xs ys))
        (rises-then (rises-locals ls before) (omega arith) (rises-statements rest (last_base before xs)))
    rises-statements (of_statement_first {x = x} i rest) before =
        rises-then (rises-statement i before) (omega arith) (rises-statements rest (base_in_statement x))
