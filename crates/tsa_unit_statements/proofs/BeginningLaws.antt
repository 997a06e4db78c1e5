-- How statements begin.
use Rattle.std.proofs.Common.{ℕ, ◌+◌, ◌≡◌, ◌≢◌, ◌∙◌, nat_eq, ap, List, Result, Ok}
use Rattle.tsa_base.specs.Tokens.{Lexeme}
use Rattle.tsa_grammar.proofs.Cases.{goes}
use Rattle.tsa_tree.specs.declared.expr.Name.{Name}
use Rattle.tsa_tree.specs.declared.sign.Keyword.{Keyword}
use Rattle.tsa_tree.specs.declared.sign.Keyword.TheVariants as key
use Rattle.tsa_tree.specs.declared.sign.Sign.{Sign}
use Rattle.tsa_tree.specs.declared.sign.Sign.TheVariants as sign
use Rattle.tsa_tree.specs.expressions.Syntax.{Expression}
use Rattle.tsa_tree.specs.Reads.{read}
use Rattle.tsa_tree.specs.Rows.{a_statement, statement, mark}
use Rattle.tsa_tree.specs.expressions.Shapes.{name_shape}
use Rattle.tsa_tree.specs.tokens.Signs.{Aliases, sign_at, identifier_at}
use Rattle.tsa_tree.specs.statements.Syntax as plain
use Rattle.tsa_expr.specs.declared.refusal.SyntaxRefusal.{SyntaxRefusal}
use Rattle.tsa_expr.specs.Gives.{Fails, Gives}
use Rattle.tsa_expr.proofs.Answering.{fails_then, fails_same, gives_same}
use Rattle.tsa_expr.proofs.Places.{sign_within}
use Rattle.tsa_unit_simple.specs.declared.points.Read.{Read}
use Rattle.tsa_unit_simple.specs.Outcomes.{simple_statement_at, closed_at, test_at}
use Rattle.tsa_unit_simple.specs.Readings.{seen_statement}
use Rattle.tsa_unit_simple.proofs.ConditionLaws.{not_colon}
use Rattle.tsa_unit_heads.specs.declared.heads.Head.{Head}
use Rattle.tsa_unit_heads.specs.declared.heads.Head.TheVariants as head
use Rattle.tsa_unit_heads.specs.Heads.{ended_at}
use Rattle.tsa_unit_heads.proofs.HeadLaws.{label_opens}
use Rattle.tsa_unit_heads.proofs.LeafRows.{empty_is, unlabelled_is, other_is}
use Rattle.tsa_unit_statements.specs.Closings.{arms_at}
use Rattle.tsa_unit_statements.proofs.IfRows.{if_is}

module _ (ts : List Lexeme) (aliases : Aliases) where
  pub empty_gives : (d m : ℕ) (x : Result Read SyntaxRefusal) → sign_at ts aliases m ≡ sign.Semicolon
      → Gives seen_statement x (closed_at ts aliases plain.empty m m) → Gives seen_statement x (read ts a_statement (statement aliases d) m)
  empty_gives d m x e g = gives_same seen_statement x _ _ (empty_is ts aliases d m e) g

  pub other_gives : (d m : ℕ) (s : Sign) (x : Result Read SyntaxRefusal) → sign_at ts aliases m ≡ s → s ≢ sign.OpenBrace → s ≢ sign.Semicolon
      → s ≢ sign.Name → ((k : Keyword) → s ≢ sign.Keyword k) → Gives seen_statement x (simple_statement_at ts aliases d m)
      → Gives seen_statement x (read ts a_statement (statement aliases d) m)
  other_gives d m s x e a b c w g = gives_same seen_statement x _ _ (other_is ts aliases d m s e a b c w) g

  -- names
  pub unlabelled_gives : (d m : ℕ) (x : Result Read SyntaxRefusal) → sign_at ts aliases m ≡ sign.Name → sign_at ts aliases (m + 1) ≢ sign.Colon
      → Gives seen_statement x (simple_statement_at ts aliases d m) → Gives seen_statement x (read ts a_statement (statement aliases d) m)
  unlabelled_gives d m x e c g = gives_same seen_statement x _ _ (unlabelled_is ts aliases d m e (not_colon (sign_at ts aliases (m + 1)) c)) g

  pub label_gives : (d m : ℕ) (name : Name) (x : Result Read SyntaxRefusal) → sign_at ts aliases m ≡ sign.Name → sign_at ts aliases (m + 1) ≡ sign.Colon
      → name_shape name ≡ identifier_at ts m → Gives seen_statement x (ended_at ts aliases d m (head.Label name) (m + 1 + 1))
      → Gives seen_statement x (read ts a_statement (statement aliases d) m)
  label_gives d m name x e c n g =
      gives_same seen_statement x _ _ (label_opens ts aliases d m name e (ap (λ s. nat_eq (mark s) 20) c) n) g

  -- statements with a keyword that a body ends
  pub headed_gives : (d m : ℕ) (h : Head) (n : ℕ) (x : Result Read SyntaxRefusal)
      → read ts a_statement (statement aliases d) m ≡ ended_at ts aliases d m h n → Gives seen_statement x (ended_at ts aliases d m h n)
      → Gives seen_statement x (read ts a_statement (statement aliases d) m)
  headed_gives d m h n x e g = gives_same seen_statement x _ _ e g

  -- an `if`
  pub if_fails : (d m : ℕ) (e : SyntaxRefusal) → sign_at ts aliases m ≡ sign.Keyword key.If → Fails e (test_at ts aliases d (m + 1))
      → Fails e (read ts a_statement (statement aliases d) m)
  if_fails d m e s f = fails_same e _ _ (if_is ts aliases d m s) (fails_then e _ _ f)

  pub if_gives : (d m : ℕ) (t : Expression) (n : ℕ) (x : Result Read SyntaxRefusal) → sign_at ts aliases m ≡ sign.Keyword key.If
      → test_at ts aliases d (m + 1) ≡ Ok (t, n) → Gives seen_statement x (arms_at ts aliases d m t n)
      → Gives seen_statement x (read ts a_statement (statement aliases d) m)
  if_gives d m t n x s h g = gives_same seen_statement x _ _ (if_is ts aliases d m s ∙ goes _ _ t n h) g

pub ruleset signs = (empty_gives, other_gives)

pub ruleset names = (unlabelled_gives, label_gives, sign_within)

pub ruleset headed = (headed_gives)

pub ruleset ifs = (if_fails, if_gives, sign_within)
