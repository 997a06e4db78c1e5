-- How statements end that hold others: an `if` with its arms, a `do` with its test, and what stands before a body with it.
use Rattle.std.specs.Prelude.{ℕ, ◌+◌, List, Some, None, Ok}
use Rattle.std.specs.Borrow.{Bor}
use Rattle.std.specs.declared.option.Option.{Option}
use Rattle.tsa_base.specs.declared.token.Span.{Span}
use Rattle.tsa_base.specs.Tokens.{Lexeme}
use Rattle.tsa_tree.specs.declared.sign.Keyword.TheVariants as key
use Rattle.tsa_tree.specs.declared.stmt.Stmt.{Stmt}
use Rattle.tsa_tree.specs.declared.stmt.StmtKind.TheVariants as kind
use Rattle.tsa_tree.specs.expressions.Syntax.{Expression}
use Rattle.tsa_tree.specs.Rows.{a_keyword, a_semicolon, sees}
use Rattle.tsa_tree.specs.tokens.Signs.{Aliases, span_over}
use Rattle.tsa_tree.specs.statements.Syntax.{Statement, do_loop, if_alone, if_else}
use Rattle.tsa_tree.specs.statements.Shapes.{stmt_shape}
use Rattle.tsa_grammar.specs.Reading.{Outcome, then, choose}
use Rattle.tsa_decl_declarators.specs.Outcomes.{one_token}
use Rattle.tsa_unit_heads.specs.declared.heads.Head.{Head}
use Rattle.tsa_unit_heads.specs.declared.heads.Head.TheVariants.{While, Switch, For, Case, Otherwise, Label}
use Rattle.tsa_unit_simple.specs.Outcomes.{body_at, test_at}

-- the statement that a head and its body are, in the arena
abbrev pub ended_with : Head → Bor Stmt → Span → Stmt
ended_with (While test number) body span = record { kind = kind.While test body; point = Some number; span = span }
ended_with (Switch value number) body span = record { kind = kind.Switch value body; point = Some number; span = span }
ended_with (For init test number step) body span = record { kind = kind.For init test step body; point = Some number; span = span }
ended_with (Case value) body span = record { kind = kind.Case value body; point = None; span = span }
ended_with Otherwise body span = record { kind = kind.Otherwise body; point = None; span = span }
ended_with (Label name) body span = record { kind = kind.Label name body; point = None; span = span }

-- an `if` with its arms
abbrev pub if_with : Expression → (arm : Stmt) → (other : Option (Bor Stmt)) → Span → Statement
if_with test arm None span = if_alone test (stmt_shape arm.kind arm.span) span
if_with test arm (Some s) span = if_else test (stmt_shape arm.kind arm.span) (stmt_shape s.now.kind s.now.span) span

module _ (tokens : List Lexeme) (aliases : Aliases) (d start : ℕ) where
  -- after the arm of an `if`
  abbrev pub arm_at : Expression → Statement → (n : ℕ) → Outcome Statement
  arm_at x arm n =
      choose (sees tokens (a_keyword aliases key.Else) n)
      (then (body_at tokens aliases d (n + 1)) (λ other e. Ok (if_else x arm other (span_over tokens start e), e)))
      (Ok (if_alone x arm (span_over tokens start n), n))

  -- from the arm of an `if` on
  abbrev pub arms_at : Expression → (n : ℕ) → Outcome Statement
  arms_at x n = then (body_at tokens aliases d n) (λ arm e. arm_at x arm e)

  -- after the body of a `do`
  abbrev pub do_end_at : Statement → (n : ℕ) → Outcome Statement
  do_end_at body n =
      then (one_token tokens (a_keyword aliases key.While) n) (λ u k. then (test_at tokens aliases d k) (λ x e.
      then (one_token tokens (a_semicolon aliases) e) (λ u f. Ok (do_loop body x (span_over tokens start f), f))))
