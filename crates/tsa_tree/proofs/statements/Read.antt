-- Statements that the tokens of a text spell are sound.
use Rattle.std.proofs.Common.{ℕ, ◌+◌, refl, List, [], ◌∷◌, Bool, true, false}
use Rattle.std.specs.declared.option.Option.{Option}
use Rattle.tsa_base.specs.declared.token.Span.{Span}
use Rattle.tsa_base.specs.Tokens.{Lexeme}
use Rattle.tsa_tree.specs.declarations.Syntax.{Declaration}
use Rattle.tsa_tree.specs.expressions.Syntax.{Expression}
use Rattle.tsa_tree.specs.tokens.Signs.{Aliases}
use Rattle.tsa_tree.specs.statements.Syntax.{Simple, evaluation, assignment, ForInit, Statement, Statements, locals_before, spanning}
use Rattle.tsa_tree.specs.statements.Spelling.{IsSimple, of_evaluation, of_assignment, of_step_behind, of_step_before, IsOptional}
use Rattle.tsa_tree.specs.statements.Spelling.{no_expression, an_expression, IsTest, of_test, IsForInit, of_no_init, of_simple_init}
use Rattle.tsa_tree.specs.statements.Spelling.{of_local_init, IsForStep, of_no_step, of_step, IsStatement, of_block, of_empty, of_simple}
use Rattle.tsa_tree.specs.statements.Spelling.{of_if, of_if_else, of_while, of_do, of_for, of_switch, of_case, of_default, of_label}
use Rattle.tsa_tree.specs.statements.Spelling.{of_break, of_continue, of_goto, of_return, IsBody, of_body, IsStatements, no_statement}
use Rattle.tsa_tree.specs.statements.Spelling.{of_locals_first, of_statement_first}
use Rattle.tsa_tree.specs.expressions.Sound.{words_beside, SoundExpression, SoundOptional}
use Rattle.tsa_tree.specs.statements.Sound.{SoundSimple, SoundForInit, SoundForStep, SoundStatement, SoundStatements}
use Rattle.tsa_tree.proofs.tokens.NamesAndNumbers.{AreTokensOfKinds, name_at}
use Rattle.tsa_tree.proofs.tokens.SignsRead.{assigning_at, stepping_at}
use Rattle.tsa_tree.proofs.expressions.ReadSound.{expression_sound, unary_sound}
use Rattle.tsa_tree.proofs.declarations.Read.{SoundLocals, specifier_sound, variable_sound, locals_sound}
use Rattle.tsa_grammar.specs.Reading.{all}

spanning_sound : (aliases : Aliases) (x : Simple) (span : Span) → SoundSimple (words_beside aliases) x → SoundSimple (words_beside aliases) (spanning x span)
spanning_sound aliases (evaluation x other) span h = h
spanning_sound aliases (assignment left op right other) span h = h

locals_before_sound : (aliases : Aliases) (xs : List Declaration) (ys : Statements) → SoundLocals (words_beside aliases) xs
    → SoundStatements (words_beside aliases) ys
    → SoundStatements (words_beside aliases) (locals_before xs ys)
locals_before_sound aliases [] ys h k = k
locals_before_sound aliases (x ∷ xs) ys h k = (h.0, locals_before_sound aliases xs ys h.1 k)

module _ (aliases : Aliases) (tokens : List Lexeme) (real : AreTokensOfKinds tokens) where
  simple_sound : {d : ℕ} {x : Simple} {a b : ℕ} → IsSimple tokens aliases all d x a b → SoundSimple (words_beside aliases) x
  simple_sound (of_evaluation h) = expression_sound aliases tokens real h
  simple_sound (of_assignment {op = op} {m = m} l e r) =
      (unary_sound aliases tokens real l, assigning_at aliases tokens m op e, expression_sound aliases tokens real r)
  simple_sound (of_step_behind {op = op} {m = m} l e) = (unary_sound aliases tokens real l, stepping_at aliases tokens m op e, refl)
  simple_sound (of_step_before {op = op} {a = a} e l) = (unary_sound aliases tokens real l, stepping_at aliases tokens a op e, refl)

  optional_sound : {d : ℕ} {x : Option Expression} {a b : ℕ} → IsOptional tokens aliases all d x a b → SoundOptional (words_beside aliases) x
  optional_sound no_expression = tt
  optional_sound (an_expression h) = expression_sound aliases tokens real h

  test_sound : {d : ℕ} {x : Expression} {a b : ℕ} → IsTest tokens aliases all d x a b → SoundExpression (words_beside aliases) x
  test_sound (of_test o f h c) = expression_sound aliases tokens real h

  for_init_sound : {d : ℕ} {x : ForInit} {a b : ℕ} → IsForInit tokens aliases all d x a b → SoundForInit (words_beside aliases) x
  for_init_sound of_no_init = tt
  for_init_sound (of_simple_init h) = simple_sound h
  for_init_sound (of_local_init t h) = variable_sound aliases tokens real (specifier_sound aliases tokens real t) h

  for_step_sound : {d : ℕ} {x : Option Simple} {a b : ℕ} → IsForStep tokens aliases all d x a b → SoundForStep (words_beside aliases) x
  for_step_sound of_no_step = tt
  for_step_sound (of_step h) = simple_sound h

  -- a statement by itself is no local, so that it may stand everywhere
  mutual
    statement_sound : {d : ℕ} {x : Statement} {a b : ℕ} (in_block : Bool) → IsStatement tokens aliases all d x a b
        → SoundStatement (words_beside aliases) in_block x
    statement_sound in_block (of_block o f h c) = statements_sound h
    statement_sound in_block (of_empty e) = tt
    statement_sound in_block (of_simple {x = x} h e) = spanning_sound aliases x _ (simple_sound h)
    statement_sound in_block (of_if e t h) = (test_sound t, body_sound h)
    statement_sound in_block (of_if_else e t h short f k) = (test_sound t, body_sound h, short, body_sound k)
    statement_sound in_block (of_while e t h) = (test_sound t, body_sound h)
    statement_sound in_block (of_do e h f t g) = (body_sound h, test_sound t)
    statement_sound in_block (of_for e o f i s x p t c h) = (for_init_sound i, optional_sound x, for_step_sound t, body_sound h)
    statement_sound in_block (of_switch e t h) = (test_sound t, body_sound h)
    statement_sound in_block (of_case e x c h) = (expression_sound aliases tokens real x, body_sound h)
    statement_sound in_block (of_default e c h) = body_sound h
    statement_sound in_block (of_label {a = a} e c h) = (name_at aliases tokens real a e, body_sound h)
    statement_sound in_block (of_break e s) = tt
    statement_sound in_block (of_continue e s) = tt
    statement_sound in_block (of_goto {a = a} e n s) = name_at aliases tokens real (a + 1) n
    statement_sound in_block (of_return e x s) = optional_sound x

    body_sound : {d : ℕ} {x : Statement} {a b : ℕ} → IsBody tokens aliases all d x a b → SoundStatement (words_beside aliases) false x
    body_sound (of_body f h) = statement_sound false h

    pub statements_sound : {d : ℕ} {xs : Statements} {a b : ℕ} → IsStatements tokens aliases all d xs a b → SoundStatements (words_beside aliases) xs
    statements_sound no_statement = tt
    statements_sound (of_locals_first {xs = xs} {ys = ys} h s k) =
        locals_before_sound aliases xs ys (locals_sound aliases tokens real h) (statements_sound k)
    statements_sound (of_statement_first h k) = (statement_sound true h, statements_sound k)
