-- A run of the pieces of a simple statement, a test or a part of a `for` spells it up to spans.
use Rattle.std.proofs.Common.{ℕ, ◌+◌, ◌≡◌, ap, subst, refl, List, [], ◌∷◌, ◌++◌, Some, None, option_map}
use Rattle.std.specs.declared.option.Option.{Option}
use Rattle.tsa_base.specs.Tokens.{Lexeme}
use Rattle.tsa_tree.specs.declared.sign.Keyword.{Keyword}
use Rattle.tsa_tree.specs.declared.sign.Sign.TheVariants as sign
use Rattle.tsa_tree.specs.expressions.Syntax.{Expression, plain, nowhere}
use Rattle.tsa_tree.specs.statements.Plain.{plain_simple, plain_for_init}
use Rattle.tsa_tree.specs.tokens.Signs.{Aliases, sign_at, span_over}
use Rattle.tsa_tree.specs.statements.Syntax.{Simple, evaluation, assignment, ForInit, no_init, simple_init, local_init}
use Rattle.tsa_tree.specs.statements.Spelling.{IsSimple, of_evaluation, of_assignment, IsOptional, no_expression, an_expression, IsTest}
use Rattle.tsa_tree.specs.statements.Spelling.{of_test, IsForInit, of_no_init, of_simple_init, of_local_init, IsForStep, of_no_step}
use Rattle.tsa_tree.specs.statements.Spelling.{of_step}
use Rattle.tsa_tree.specs.expressions.Sound.{words_beside, SoundExpression, SoundOptional}
use Rattle.tsa_tree.specs.statements.Sound.{SoundSimple, SoundForInit, SoundForStep}
use Rattle.tsa_grammar.specs.Reading.{all}
use Rattle.tsa_print.specs.declared.mark.Mark.TheVariants as marks
use Rattle.tsa_print.specs.Canonical.{Piece, word, assigned, mark, pieces}
use Rattle.tsa_print.specs.UnitPieces.{simple_pieces, optional_pieces, test_pieces, for_init_pieces, for_step_pieces}
use Rattle.tsa_print.proofs.PieceSigns.{seen, assign_seen}
use Rattle.tsa_print.proofs.Runs.{Run, run_split}
use Rattle.tsa_print.proofs.SpelledDeclarations.{local_spelled}
use Rattle.tsa_print.proofs.SpelledOperands.{expression_spelled, operand_spelled}
use Rattle.tsa_print.proofs.WordSigns.{keyword_text, keyword_seen}

module _ (aliases : Aliases) (ts : List Lexeme) where
  abbrev pub SimpleRead : (d : ℕ) → Simple → (a b : ℕ) → Type 0
  SimpleRead d x a b = (u : Simple) × IsSimple ts aliases all d u a b × (plain_simple u ≡ plain_simple x)

  abbrev pub Optional : (d : ℕ) → Option Expression → (a b : ℕ) → Type 0
  Optional d x a b = (u : Option Expression) × IsOptional ts aliases all d u a b × (option_map plain u ≡ option_map plain x)

  abbrev pub Test : (d : ℕ) → Expression → (a b : ℕ) → Type 0
  Test d x a b = (u : Expression) × IsTest ts aliases all d u a b × (plain u ≡ plain x)

  abbrev pub ForInitRead : (d : ℕ) → ForInit → (a b : ℕ) → Type 0
  ForInitRead d x a b = (u : ForInit) × IsForInit ts aliases all d u a b × (plain_for_init u ≡ plain_for_init x)

  abbrev pub ForStepRead : (d : ℕ) → Option Simple → (a b : ℕ) → Type 0
  ForStepRead d x a b = (u : Option Simple) × IsForStep ts aliases all d u a b × (option_map plain_simple u ≡ option_map plain_simple x)

  pub simple_spelled : (x : Simple) (d a b : ℕ) → SoundSimple (words_beside aliases) x → Run ts a (simple_pieces x) b → SimpleRead d x a b
  simple_spelled (evaluation x s) d a b ok h =
      let u = expression_spelled aliases ts x d a b ok h in
      (evaluation u.0 (span_over ts a b), of_evaluation u.1, ap (λ t. evaluation t nowhere) u.2)
  simple_spelled (assignment l o r s) d a b ok h =
      let two = run_split ts a b (pieces l 10) (assigned o ∷ pieces r 0) h in
      let left = operand_spelled aliases ts l d a two.0 ok.0 two.1 in
      let right = expression_spelled aliases ts r d (two.0 + 1) b ok.2 two.2.1 in (
        assignment left.0 o right.0 (span_over ts a b),
        of_assignment left.1 (assign_seen aliases ts two.0 o ok.1 two.2.0) right.1,
        rw (left.2, right.2) refl,
      )

  pub optional_spelled : (x : Option Expression) (d a b : ℕ) → SoundOptional (words_beside aliases) x → Run ts a (optional_pieces x) b → Optional d x a b
  optional_spelled None d a b ok h = subst (Optional d None a) h (None, no_expression, refl)
  optional_spelled (Some x) d a b ok h =
      let u = expression_spelled aliases ts x d a b ok h in
      (Some u.0, an_expression u.1, ap Some u.2)

  test_spelled : (x : Expression) (d a b : ℕ) → SoundExpression (words_beside aliases) x → Run ts a (test_pieces x) b → Test d x a b
  test_spelled x d a b ok h =
      let two = run_split ts (a + 1) b (pieces x 0) (mark marks.CloseParenthesis ∷ []) h.1 in
      let u = expression_spelled aliases ts x (d + 1) (a + 1) two.0 ok two.1 in
      subst (Test d x a) two.2.1 (
        u.0,
        of_test (seen aliases ts a (mark marks.OpenParenthesis) h.0) refl u.1 (seen aliases ts two.0 (mark marks.CloseParenthesis) two.2.0),
        u.2,
      )

  -- a keyword and a test before other pieces
  abbrev pub Tested : Keyword → Expression → List Piece → (d a b : ℕ) → Type 0
  Tested k x ps d a b = (m : ℕ) × (sign_at ts aliases a ≡ sign.Keyword k) × Test d x (a + 1) m × Run ts m ps b

  pub tested : (k : Keyword) (x : Expression) (ps : List Piece) (d a b : ℕ) → SoundExpression (words_beside aliases) x
      → Run ts a (word (keyword_text k) ∷ (test_pieces x ++ ps)) b → Tested k x ps d a b
  tested k x ps d a b ok h =
      let two = run_split ts (a + 1) b (test_pieces x) ps h.1 in
      (two.0, keyword_seen aliases ts a k h.0, test_spelled x d (a + 1) two.0 ok two.1, two.2)

  pub for_init_spelled : (x : ForInit) (d a b : ℕ) → SoundForInit (words_beside aliases) x → Run ts a (for_init_pieces x) b → ForInitRead d x a b
  for_init_spelled no_init d a b ok h = subst (ForInitRead d no_init a) h (no_init, of_no_init, refl)
  for_init_spelled (simple_init x) d a b ok h =
      let u = simple_spelled x d a b ok h in
      (simple_init u.0, of_simple_init u.1, ap simple_init u.2)
  for_init_spelled (local_init x) d a b ok h =
      let u = local_spelled aliases ts d x a b ok h in
      (local_init u.1, of_local_init u.3 u.4, ap local_init u.5)

  pub for_step_spelled : (x : Option Simple) (d a b : ℕ) → SoundForStep (words_beside aliases) x → Run ts a (for_step_pieces x) b → ForStepRead d x a b
  for_step_spelled None d a b ok h = subst (ForStepRead d None a) h (None, of_no_step, refl)
  for_step_spelled (Some x) d a b ok h =
      let u = simple_spelled x d a b ok h in
      (Some u.0, of_step u.1, ap Some u.2)
