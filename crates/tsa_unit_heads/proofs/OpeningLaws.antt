-- Statements by the keywords that they begin with.
use Rattle.std.proofs.Common.{ℕ, ◌+◌, ◌≡◌, ◌≢◌, true, refl, List, Result, Ok, Err}
use Rattle.std.specs.Prelude.{IfOk}
use Rattle.tsa_base.specs.declared.token.Span.{Span}
use Rattle.tsa_base.specs.Tokens.{Lexeme}
use Rattle.tsa_tree.specs.declared.sign.Keyword.{Keyword}
use Rattle.tsa_tree.specs.declared.sign.Keyword.TheVariants as key
use Rattle.tsa_tree.specs.declared.sign.Sign.{Sign}
use Rattle.tsa_tree.specs.declared.sign.Sign.TheVariants as sign
use Rattle.tsa_tree.specs.declared.stmt.Point.{Point}
use Rattle.tsa_tree.specs.declared.stmt.StmtKind.TheVariants.{Break, Continue}
use Rattle.tsa_tree.specs.Reads.{read}
use Rattle.tsa_tree.specs.Rows.{a_statement, statement}
use Rattle.tsa_tree.specs.tokens.Signs.{Aliases, sign_at}
use Rattle.tsa_tree.specs.statements.Shapes.{stmt_shape}
use Rattle.tsa_expr.specs.declared.refusal.SyntaxRefusal.{SyntaxRefusal}
use Rattle.tsa_expr.specs.Gives.{Gives}
use Rattle.tsa_expr.proofs.Answering.{gives_same}
use Rattle.tsa_expr.proofs.Places.{sign_within}
use Rattle.tsa_unit_heads.specs.declared.heads.Head.{Head}
use Rattle.tsa_unit_heads.specs.declared.heads.Head.TheVariants as head
use Rattle.tsa_unit_heads.specs.declared.heads.Headed.{Headed}
use Rattle.tsa_unit_heads.specs.Heads.{IsOpened, IsUnpointed}
use Rattle.tsa_unit_heads.specs.Openings.{HoldsNoBody, ends_with_body}
use Rattle.tsa_unit_heads.proofs.LeafRows.{break_is, continue_is, goto_is, return_is, wordless_is}
use Rattle.tsa_unit_simple.specs.declared.points.Read.{Read}
use Rattle.tsa_unit_simple.specs.Outcomes.{simple_statement_at, closed_at, goto_at, return_at}
use Rattle.tsa_unit_simple.specs.Readings.{seen_statement}

module _ (ts : List Lexeme) (aliases : Aliases) where
  -- jumps
  pub break_gives : (d m : ℕ) (x : Result Read SyntaxRefusal) → sign_at ts aliases m ≡ sign.Keyword key.Break
      → Gives seen_statement x (closed_at ts aliases (stmt_shape Break) m (m + 1)) → Gives seen_statement x (read ts a_statement (statement aliases d) m)
  break_gives d m x e g = gives_same seen_statement x _ _ (break_is ts aliases d m e) g

  pub continue_gives : (d m : ℕ) (x : Result Read SyntaxRefusal) → sign_at ts aliases m ≡ sign.Keyword key.Continue
      → Gives seen_statement x (closed_at ts aliases (stmt_shape Continue) m (m + 1)) → Gives seen_statement x (read ts a_statement (statement aliases d) m)
  continue_gives d m x e g = gives_same seen_statement x _ _ (continue_is ts aliases d m e) g

  pub goto_gives : (d m : ℕ) (x : Result Read SyntaxRefusal) → sign_at ts aliases m ≡ sign.Keyword key.Goto
      → Gives seen_statement x (goto_at ts aliases m) → Gives seen_statement x (read ts a_statement (statement aliases d) m)
  goto_gives d m x e g = gives_same seen_statement x _ _ (goto_is ts aliases d m e) g

  pub return_gives : (d m : ℕ) (x : Result Read SyntaxRefusal) → sign_at ts aliases m ≡ sign.Keyword key.Return
      → Gives seen_statement x (return_at ts aliases d m) → Gives seen_statement x (read ts a_statement (statement aliases d) m)
  return_gives d m x e g = gives_same seen_statement x _ _ (return_is ts aliases d m e) g

  pub wordless_gives : (d m : ℕ) (k : Keyword) (x : Result Read SyntaxRefusal) → sign_at ts aliases m ≡ sign.Keyword k → HoldsNoBody k
      → k ≢ key.Break → k ≢ key.Continue → k ≢ key.Goto → k ≢ key.Return
      → Gives seen_statement x (simple_statement_at ts aliases d m) → Gives seen_statement x (read ts a_statement (statement aliases d) m)
  wordless_gives d m key.If x e h a b c f g = absurd (h.0 refl)
  wordless_gives d m key.Do x e h a b c f g = absurd (h.1 refl)
  wordless_gives d m key.While x e h a b c f g = absurd (h.2 refl)
  wordless_gives d m key.Switch x e h a b c f g = absurd (h.3 refl)
  wordless_gives d m key.For x e h a b c f g = absurd (h.4 refl)
  wordless_gives d m key.Case x e h a b c f g = absurd (h.5 refl)
  wordless_gives d m key.Default x e h a b c f g = absurd (h.6 refl)
  wordless_gives d m key.Break x e h a b c f g = absurd (a refl)
  wordless_gives d m key.Continue x e h a b c f g = absurd (b refl)
  wordless_gives d m key.Goto x e h a b c f g = absurd (c refl)
  wordless_gives d m key.Return x e h a b c f g = absurd (f refl)
  wordless_gives d m k x e h a b c f g = gives_same seen_statement x _ _ (wordless_is ts aliases d m k e refl) g

-- what is left of the keywords whose statements end with a body
pub default_left : (s : Sign) (k : Keyword) → s ≡ sign.Keyword k → ends_with_body k ≡ true → k ≢ key.While → k ≢ key.Switch → k ≢ key.For
    → k ≢ key.Case → s ≡ sign.Keyword key.Default
default_left s key.Default e h a b c d = e
default_left s key.While e h a b c d = absurd (a refl)
default_left s key.Switch e h a b c d = absurd (b refl)
default_left s key.For e h a b c d = absurd (c refl)
default_left s key.Case e h a b c d = absurd (d refl)
default_left s k e h a b c d = cc

-- a head without points opens where the points are those that were there
unpointed : (h : Head) (word : Span) (points : List Point) → IsUnpointed h → IsOpened word points points h
unpointed (head.Case value) word points h = refl
unpointed head.Otherwise word points h = refl
unpointed _ word points h = absurd h

pub unpointed_opened : (x : Result Headed SyntaxRefusal) (word : Span) (points : List Point) → IfOk x (λ r. IsUnpointed r.head)
    → IfOk x (λ r. IsOpened word points points r.head)
unpointed_opened (Ok r) word points h = unpointed r.head word points h
unpointed_opened (Err e) word points h = tt

pub ruleset heads = (default_left, unpointed_opened, sign_within)

pub ruleset jumps = (break_gives, continue_gives, goto_gives, return_gives, wordless_gives, sign_within)
