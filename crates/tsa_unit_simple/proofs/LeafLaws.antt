-- Statements that hold no other one.
use Rattle.std.proofs.Common.{ℕ, ◌+◌, ◌≡◌, ◌≢◌, ◌∙◌, Some, None, nat_eq, ap, sym, refl, List, Result, Ok, Err}
use Rattle.std.specs.Prelude.{IfOk, OnErr}
use Rattle.tsa_base.specs.declared.token.Span.{Span}
use Rattle.tsa_base.specs.Tokens.{Lexeme}
use Rattle.tsa_grammar.proofs.Cases.{goes, chosen, other}
use Rattle.tsa_grammar.specs.Reading.{Outcome, then}
use Rattle.tsa_tree.specs.declared.stmt.StmtKind.{StmtKind}
use Rattle.tsa_tree.specs.Rows.{an_expression, expression, a_semicolon, mark}
use Rattle.tsa_tree.specs.tokens.Signs.{Aliases, sign_at, span_over}
use Rattle.tsa_tree.specs.statements.Syntax.{simple, spanning, Statement}
use Rattle.tsa_tree.specs.statements.Syntax.{goto, return}
use Rattle.tsa_tree.specs.statements.Shapes.{stmt_shape}
use Rattle.tsa_expr.specs.declared.refusal.SyntaxRefusal.{SyntaxRefusal}
use Rattle.tsa_expr.specs.declared.refusal.SyntaxRefusal.TheVariants.{NoMemory}
use Rattle.tsa_expr.specs.Gives.{Fails, Gives}
use Rattle.tsa_tree.specs.declared.stmt.Action.{Action}
use Rattle.tsa_unit_simple.specs.PointNumbers.{IsAlone}
use Rattle.tsa_expr.proofs.Answering.{fails_then, fails_same, gives_same}
use Rattle.tsa_decl_declarators.specs.Outcomes.{one_token, name_at}
use Rattle.tsa_decl_declarators.proofs.TokenLaws.{not_semicolon}
use Rattle.tsa_tree.specs.declared.expr.Expr.{Expr}
use Rattle.tsa_tree.specs.declared.expr.Name.{Name}
use Rattle.tsa_tree.specs.declared.sign.Sign.TheVariants as sign
use Rattle.tsa_tree.specs.Reads.{read}
use Rattle.tsa_tree.specs.expressions.Shapes.{name_shape, shape}
use Rattle.tsa_unit_simple.specs.declared.simple.Simple as read_simple
use Rattle.tsa_unit_simple.specs.declared.simple.SimpleKind.{SimpleKind}
use Rattle.tsa_unit_simple.specs.declared.simple.SimpleKind.TheVariants.{Eval, Assign}
use Rattle.tsa_unit_simple.specs.declared.points.Read.{Read}
use Rattle.tsa_unit_simple.specs.Outcomes.{simple_at, simple_statement_at, closed_at, goto_at, return_at}
use Rattle.tsa_unit_simple.specs.Readings.{kind_shape, simple_shape, seen_statement}

respanned : (k : SimpleKind) (a b : Span) → spanning (kind_shape k a) b ≡ kind_shape k b
respanned (Eval x) a b = refl
respanned (Assign l o r) a b = refl

-- what a statement of one point is made of
abbrev IsOf : StmtKind → Span → ℕ → Read → Type 0
IsOf kind span n s = (s.stmt.kind ≡ kind) × (s.stmt.span ≡ span) × (s.next ≡ n)

abbrev pub answered : Statement → ℕ → Outcome Statement
answered x n = Ok (x, n)

seen_of : (kind : StmtKind) (span : Span) (n : ℕ) (s : Read) → IsOf kind span n s
    → answered (stmt_shape kind span) n ≡ Ok (seen_statement s)
seen_of kind span n s i =
    ap (λ kind. answered (stmt_shape kind span) n) (sym i.0)
    ∙ ap (λ span. answered (stmt_shape s.stmt.kind span) n) (sym i.1)
    ∙ ap (λ n. answered (stmt_shape s.stmt.kind s.stmt.span) n) (sym i.2)

pub single_there : (kind : StmtKind) (action : Action) (span : Span) → ((span : Span) → IsAlone kind action span) → IsAlone kind action span
single_there kind action span h = h span

module _ (ts : List Lexeme) (aliases : Aliases) where
  pub simple_fails : (d m : ℕ) (e : SyntaxRefusal) → Fails e (simple_at ts aliases d m) → Fails e (simple_statement_at ts aliases d m)
  unfolding simple_statement_at
  simple_fails d m e f = fails_then e _ _ f

  pub simple_endless : (d m : ℕ) (r : read_simple.Simple) (e : SyntaxRefusal) → simple_at ts aliases d m ≡ Ok (simple_shape r, r.next)
      → Fails e (one_token ts (a_semicolon aliases) r.next) → Fails e (simple_statement_at ts aliases d m)
  unfolding simple_statement_at
  simple_endless d m r e h f = fails_same e _ _ (goes _ _ (simple_shape r) r.next h) (fails_then e _ _ f)

  pub simple_answers : (d m : ℕ) (r : read_simple.Simple) (n : ℕ) (span : Span) (x : Result Read SyntaxRefusal)
      → simple_at ts aliases d m ≡ Ok (simple_shape r, r.next) → one_token ts (a_semicolon aliases) r.next ≡ Ok (tt, n) → span ≡ span_over ts m n
      → IfOk x (λ s. (stmt_shape s.stmt.kind s.stmt.span ≡ simple (kind_shape r.kind span)) × (s.next ≡ n)) → OnErr x (x ≡ Err NoMemory)
      → Gives seen_statement x (simple_statement_at ts aliases d m)
  unfolding simple_statement_at
  simple_answers d m r n span (Ok s) h k p i w =
      goes _ _ (simple_shape r) r.next h ∙ goes _ _ tt n k
      ∙ ap (λ x. Ok (simple x, n)) (respanned r.kind r.span (span_over ts m n))
      ∙ ap (λ span. Ok (simple (kind_shape r.kind span), n)) (sym p)
      ∙ ap (λ x. answered x n) (sym i.0) ∙ ap (λ n. answered (stmt_shape s.stmt.kind s.stmt.span) n) (sym i.1)
  simple_answers d m r n span (Err NoMemory) h k p i w = tt
  simple_answers d m r n span (Err e) h k p i w = cc

  pub closed_fails : (make : Span → Statement) (start m : ℕ) (e : SyntaxRefusal) → Fails e (one_token ts (a_semicolon aliases) m)
      → Fails e (closed_at ts aliases make start m)
  unfolding closed_at
  closed_fails make start m e f = fails_then e _ _ f

  pub closed_answers : (start m n : ℕ) (kind : StmtKind) (span : Span) (x : Result Read SyntaxRefusal)
      → one_token ts (a_semicolon aliases) m ≡ Ok (tt, n) → span ≡ span_over ts start n
      → IfOk x (λ s. IsOf kind span n s) → OnErr x (x ≡ Err NoMemory)
      → Gives seen_statement x (closed_at ts aliases (stmt_shape kind) start m)
  unfolding closed_at
  closed_answers start m n kind span (Ok s) k p i w =
      goes _ _ tt n k ∙ ap (λ span. Ok (stmt_shape kind span, n)) (sym p) ∙ seen_of kind span n s i
  closed_answers start m n kind span (Err NoMemory) k p i w = tt
  closed_answers start m n kind span (Err e) k p i w = cc

  pub goto_nameless : (m : ℕ) (e : SyntaxRefusal) → Fails e (name_at ts aliases (m + 1)) → Fails e (goto_at ts aliases m)
  unfolding goto_at
  goto_nameless m e f = fails_then e _ _ f

  pub goto_answers : (m : ℕ) (x : Name) (n : ℕ) (r : Result Read SyntaxRefusal) → name_at ts aliases (m + 1) ≡ Ok (name_shape x, n)
      → Gives seen_statement r (closed_at ts aliases (goto (name_shape x)) m n) → Gives seen_statement r (goto_at ts aliases m)
  unfolding goto_at
  goto_answers m x n r h g = gives_same seen_statement r _ _ (goes _ _ (name_shape x) n h) g

  pub return_plain : (d m : ℕ) (r : Result Read SyntaxRefusal) → sign_at ts aliases (m + 1) ≡ sign.Semicolon
      → Gives seen_statement r (closed_at ts aliases (return None) m (m + 1)) → Gives seen_statement r (return_at ts aliases d m)
  unfolding return_at
  return_plain d m r h g = gives_same seen_statement r _ _ (chosen _ _ _ (ap (λ s. nat_eq (mark s) 19) h)) g

  valued : (d m : ℕ) → sign_at ts aliases (m + 1) ≢ sign.Semicolon
      → return_at ts aliases d m
      ≡ then (read ts an_expression (expression aliases d 0) (m + 1)) (λ x n. closed_at ts aliases (return (Some x)) m n)
  unfolding return_at
  valued d m h = other _ _ _ (not_semicolon (sign_at ts aliases (m + 1)) h)

  pub return_fails : (d m : ℕ) (e : SyntaxRefusal) → sign_at ts aliases (m + 1) ≢ sign.Semicolon
      → Fails e (read ts an_expression (expression aliases d 0) (m + 1)) → Fails e (return_at ts aliases d m)
  return_fails d m e h f = fails_same e _ _ (valued d m h) (fails_then e _ _ f)

  pub return_answers : (d m : ℕ) (x : Expr) (n : ℕ) (r : Result Read SyntaxRefusal) → sign_at ts aliases (m + 1) ≢ sign.Semicolon
      → read ts an_expression (expression aliases d 0) (m + 1) ≡ Ok (shape x, n)
      → Gives seen_statement r (closed_at ts aliases (return (Some (shape x))) m n) → Gives seen_statement r (return_at ts aliases d m)
  return_answers d m x n r h k g = gives_same seen_statement r _ _ (valued d m h ∙ goes _ _ (shape x) n k) g

pub ruleset simple_statements = (simple_fails, simple_endless, simple_answers)

pub ruleset closed = (closed_fails, closed_answers, single_there)

pub ruleset gotos = (goto_nameless, goto_answers)

pub ruleset returns = (return_plain, return_fails, return_answers)
