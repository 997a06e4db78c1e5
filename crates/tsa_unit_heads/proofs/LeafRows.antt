-- Statements that hold no other one, by their rows.
use Rattle.std.proofs.Common.{ℕ, ◌+◌, ◌≡◌, ◌≢◌, ◌∙◌, Bool, Some, None, true, false, nat_eq, ap, sym, refl, List, Ok, Err}
use Rattle.tsa_base.specs.Tokens.{Lexeme}
use Rattle.tsa_grammar.proofs.Cases.{chosen, other}
use Rattle.tsa_grammar.specs.Form.{done}
use Rattle.tsa_grammar.specs.Reading.{Outcome, refuse, syntax, then, choose}
use Rattle.tsa_tree.specs.declared.sign.Keyword.{Keyword}
use Rattle.tsa_tree.specs.declared.sign.Keyword.TheVariants as key
use Rattle.tsa_tree.specs.declared.sign.Sign.{Sign}
use Rattle.tsa_tree.specs.declared.sign.Sign.TheVariants as sign
use Rattle.tsa_tree.specs.expressions.Syntax.{Identifier}
use Rattle.tsa_tree.specs.Reads.{read}
use Rattle.tsa_tree.specs.Rows.{an_expression, a_simple, expression, simple, a_name, a_semicolon, a_colon, sees, mark, simple_statement}
use Rattle.tsa_tree.specs.tokens.Signs.{Aliases, sign_at, span_over, identifier_at, begins_statement}
use Rattle.tsa_tree.specs.statements.Syntax.{empty, break, continue, goto, return, spanning, label}
use Rattle.tsa_tree.specs.statements.Syntax as plain
use Rattle.tsa_attr.proofs.Joining.{then-then, then-same, then-choose, then-ok}
use Rattle.tsa_decl_declarators.specs.Outcomes.{one_token, name_at}
use Rattle.tsa_unit_simple.specs.Outcomes.{simple_at, simple_statement_at, closed_at, goto_at, return_at, value_or_none_at, body_at}
use Rattle.tsa_unit_simple.proofs.RowLaws.{stmt, going, token_at, row_is, word_is, body_is, value_is}
use Rattle.tsa_unit_simple.proofs.LeafLaws.{answered}

named : {A : Type 0} (b : Bool) (p : Identifier) (m : ℕ) (x : Identifier → ℕ → Outcome A)
    → choose b (x p (m + 1)) (Err (refuse syntax m)) ≡ then (choose b (Ok (p, m + 1)) (Err (refuse syntax m))) x
unfolding choose then
named true p m x = refl
named false p m x = refl

both : {A : Type 0} (b : Bool) (m : ℕ) (x : ℕ → Outcome A) (y : Outcome A)
    → choose b (x (m + 1)) y ≡ choose b (then (choose b (Ok (tt {0}, m + 1)) (Err (refuse syntax m))) (λ u n. x n)) y
unfolding choose then
both true m x y = refl
both false m x y = refl

module _ (ts : List Lexeme) (aliases : Aliases) where
  pub empty_is : (d m : ℕ) → sign_at ts aliases m ≡ sign.Semicolon → stmt ts aliases d m ≡ closed_at ts aliases empty m m
  unfolding closed_at
  empty_is d m e = row_is ts aliases d m _ e ∙ token_at ts aliases (a_semicolon aliases) m (λ n. Ok (empty (span_over ts m n), n))

  pub break_is : (d m : ℕ) → sign_at ts aliases m ≡ sign.Keyword key.Break → stmt ts aliases d m ≡ closed_at ts aliases break m (m + 1)
  unfolding closed_at
  break_is d m e =
      row_is ts aliases d m _ e ∙ word_is ts aliases key.Break m _ _ e refl
      ∙ token_at ts aliases (a_semicolon aliases) (m + 1) (λ n. Ok (break (span_over ts m n), n))

  pub continue_is : (d m : ℕ) → sign_at ts aliases m ≡ sign.Keyword key.Continue → stmt ts aliases d m ≡ closed_at ts aliases continue m (m + 1)
  unfolding closed_at
  continue_is d m e =
      row_is ts aliases d m _ e ∙ word_is ts aliases key.Continue m _ _ e refl
      ∙ token_at ts aliases (a_semicolon aliases) (m + 1) (λ n. Ok (continue (span_over ts m n), n))

  pub goto_is : (d m : ℕ) → sign_at ts aliases m ≡ sign.Keyword key.Goto → stmt ts aliases d m ≡ goto_at ts aliases m
  unfolding goto_at closed_at name_at
  goto_is d m e =
      row_is ts aliases d m _ e ∙ word_is ts aliases key.Goto m _ _ e refl
      ∙ ap (λ r. choose (sees ts (a_name aliases) (m + 1)) r (Err (refuse syntax (m + 1))))
      (token_at ts aliases (a_semicolon aliases) (m + 1 + 1) (λ n. Ok (goto (identifier_at ts (m + 1)) (span_over ts m n), n)))
      ∙ named (sees ts (a_name aliases) (m + 1)) (identifier_at ts (m + 1)) (m + 1) (λ x n. then (one_token ts (a_semicolon aliases) n) (λ u e. Ok (goto x (span_over ts m e), e)))

  -- a `return`, whose value may be absent
  returned : (d m : ℕ)
      → then (value_or_none_at ts aliases d (m + 1)) (λ x n. answered (return x (span_over ts m n)) n) ≡ return_at ts aliases d m
  unfolding return_at closed_at value_or_none_at one_token then
  returned d m =
      then-choose (sees ts (a_semicolon aliases) (m + 1)) (Ok (None, m + 1 + 1)) _ _
      ∙ both (sees ts (a_semicolon aliases) (m + 1)) (m + 1) (λ n. answered (return None (span_over ts m n)) n) _
      ∙ ap (λ r. choose (sees ts (a_semicolon aliases) (m + 1)) (then (one_token ts (a_semicolon aliases) (m + 1)) (λ u n. answered (return None (span_over ts m n)) n)) r)
      (then-then (read ts an_expression (expression aliases d 0) (m + 1)) _ _
      ∙ then-same (read ts an_expression (expression aliases d 0) (m + 1)) _ _ (λ x n. then-then (one_token ts (a_semicolon aliases) n) _ _
      ∙ then-same (one_token ts (a_semicolon aliases) n) _ _ (λ u e. then-ok (Some x) e (λ x n. answered (return x (span_over ts m n)) n))))

  pub return_is : (d m : ℕ) → sign_at ts aliases m ≡ sign.Keyword key.Return → stmt ts aliases d m ≡ return_at ts aliases d m
  return_is d m e =
      row_is ts aliases d m _ e ∙ word_is ts aliases key.Return m _ _ e refl
      ∙ value_is ts aliases d (m + 1) (λ x n. done (return x (span_over ts m n))) ∙ returned d m

  -- a simple statement
  simply : (d m : ℕ) → going ts aliases (simple_statement ts aliases d m) m ≡ simple_statement_at ts aliases d m
  unfolding simple_statement_at simple_at
  simply d m =
      then-same (read ts a_simple (simple aliases d) m) _ _ (λ x n.
      token_at ts aliases (a_semicolon aliases) n (λ e. answered (plain.simple (spanning x.simple (span_over ts m e))) e)
      ∙ sym (then-ok x.simple n (λ x n. then (one_token ts (a_semicolon aliases) n) (λ u e. answered (plain.simple (spanning x (span_over ts m e))) e))))
      ∙ sym (then-then (read ts a_simple (simple aliases d) m) (λ x n. Ok (x.simple, n))
      (λ x n. then (one_token ts (a_semicolon aliases) n) (λ u e. answered (plain.simple (spanning x (span_over ts m e))) e)))

  -- after a name, where no colon stands there
  pub unlabelled_is : (d m : ℕ) → sign_at ts aliases m ≡ sign.Name → sees ts (a_colon aliases) (m + 1) ≡ false
      → stmt ts aliases d m ≡ simple_statement_at ts aliases d m
  unlabelled_is d m e c = row_is ts aliases d m _ e ∙ other _ _ _ c ∙ simply d m

  pub label_is : (d m : ℕ) → sign_at ts aliases m ≡ sign.Name → sees ts (a_colon aliases) (m + 1) ≡ true
      → stmt ts aliases d m ≡ then (body_at ts aliases d (m + 1 + 1)) (λ b e. Ok (label (identifier_at ts m) b (span_over ts m e), e))
  label_is d m e c =
      row_is ts aliases d m _ e ∙ chosen _ _ _ c ∙ chosen _ _ _ (ap (λ s. nat_eq (mark s) 3) e) ∙ chosen _ _ _ c
      ∙ body_is ts aliases d (m + 1 + 1) (λ b e. done (label (identifier_at ts m) b (span_over ts m e)))

  -- any other sign
  pub other_is : (d m : ℕ) (s : Sign) → sign_at ts aliases m ≡ s → s ≢ sign.OpenBrace → s ≢ sign.Semicolon → s ≢ sign.Name
      → ((k : Keyword) → s ≢ sign.Keyword k) → stmt ts aliases d m ≡ simple_statement_at ts aliases d m
  other_is d m sign.OpenBrace e a b c w = absurd (a refl)
  other_is d m sign.Semicolon e a b c w = absurd (b refl)
  other_is d m sign.Name e a b c w = absurd (c refl)
  other_is d m (sign.Keyword k) e a b c w = absurd (w k refl)
  other_is d m s e a b c w = row_is ts aliases d m _ e ∙ simply d m

  -- a keyword that begins no statement
  pub wordless_is : (d m : ℕ) (k : Keyword) → sign_at ts aliases m ≡ sign.Keyword k → begins_statement (sign.Keyword k) ≡ false
      → stmt ts aliases d m ≡ simple_statement_at ts aliases d m
  wordless_is d m key.If e h = cc
  wordless_is d m key.While e h = cc
  wordless_is d m key.Do e h = cc
  wordless_is d m key.For e h = cc
  wordless_is d m key.Switch e h = cc
  wordless_is d m key.Case e h = cc
  wordless_is d m key.Default e h = cc
  wordless_is d m key.Break e h = cc
  wordless_is d m key.Continue e h = cc
  wordless_is d m key.Goto e h = cc
  wordless_is d m key.Return e h = cc
  wordless_is d m k e h = row_is ts aliases d m _ e ∙ simply d m
