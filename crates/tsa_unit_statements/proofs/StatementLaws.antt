-- Statements that hold others.
use Rattle.std.proofs.Common.{ℕ, ◌+◌, ◌<◌, ◌≤◌, ◌≡◌, ◌∙◌, Some, None, true, false, ap, sym, subst, List, [], map, Result, Ok, Err, IfOk}
use Rattle.std.specs.Borrow.{Bor}
use Rattle.tsa_base.specs.Tokens.{Lexeme}
use Rattle.tsa_grammar.proofs.Cases.{goes, chosen, other}
use Rattle.tsa_grammar.specs.Reading.{refuse, syntax, deep}
use Rattle.tsa_tree.specs.declared.sign.Keyword.TheVariants as key
use Rattle.tsa_tree.specs.declared.sign.Sign.TheVariants as sign
use Rattle.tsa_tree.specs.declared.stmt.Point.{Point}
use Rattle.tsa_tree.specs.declared.stmt.Stmt.{Stmt}
use Rattle.tsa_tree.specs.expressions.Syntax.{Expression}
use Rattle.tsa_tree.specs.Reads.{read}
use Rattle.tsa_tree.specs.Rows.{a_statement, some_statements, statement, statements, a_keyword, a_close_brace, sees}
use Rattle.tsa_tree.specs.tokens.Signs.{Aliases, sign_at, span_over, begins_statement, begins_type}
use Rattle.tsa_tree.specs.statements.Syntax.{Statement, Statements, block}
use Rattle.tsa_tree.specs.statements.Shapes.{stmt_shape, stmt_shapes, point_shape}
use Rattle.tsa_expr.specs.declared.refusal.SyntaxRefusal.{SyntaxRefusal}
use Rattle.tsa_expr.specs.Gives.{Fails, Gives}
use Rattle.tsa_expr.proofs.Answering.{fails_then, fails_same, gives_same, in_limit, over_limit}
use Rattle.tsa_attr.proofs.Joining.{append-nil}
use Rattle.tsa_decl_declarators.specs.Outcomes.{opening_brace}
use Rattle.tsa_unit_heads.specs.declared.heads.Head.{Head}
use Rattle.tsa_unit_simple.specs.declared.points.Read.{Read}
use Rattle.tsa_unit_heads.specs.Heads.{ended, ended_at}
use Rattle.tsa_unit_statements.specs.Closings.{arms_at, do_end_at, if_with}
use Rattle.tsa_unit_simple.specs.Outcomes.{body_at, statements_after}
use Rattle.tsa_unit_statements.specs.KeepAnswers.{IsKept}
use Rattle.tsa_unit_simple.specs.PointNumbers.{IsPointed, ArePointed}
use Rattle.tsa_unit_simple.specs.Readings.{seen_statement}
use Rattle.tsa_unit_simple.proofs.RowLaws.{do_is}
use Rattle.tsa_unit_simple.proofs.ListRows.{block_is, after-nothing, stmts_close, another_fails, another_goes}
use Rattle.tsa_expr.proofs.Places.{sign_within}
use Rattle.tsa_unit_simple.proofs.MarkLaws.{pushed, shapes_push}

module _ (ts : List Lexeme) (aliases : Aliases) where
  pub body_wrong : (d m : ℕ) → begins_statement (sign_at ts aliases m) ≡ false → body_at ts aliases d m ≡ Err (refuse syntax m)
  unfolding body_at
  body_wrong d m b = other _ _ _ b

  pub body_deep : (d m : ℕ) → begins_statement (sign_at ts aliases m) ≡ true → 100 ≤ d → body_at ts aliases d m ≡ Err (refuse deep m)
  unfolding body_at
  body_deep d m b h = chosen _ _ _ b ∙ other _ _ _ (over_limit d h)

  body_is : (d m : ℕ) → begins_statement (sign_at ts aliases m) ≡ true → d < 100 → body_at ts aliases d m ≡ read ts a_statement (statement aliases (d + 1)) m
  unfolding body_at
  body_is d m b h = chosen _ _ _ b ∙ chosen _ _ _ (in_limit d h)

  pub body_fails : (d m : ℕ) (e : SyntaxRefusal) → begins_statement (sign_at ts aliases m) ≡ true → d < 100
      → Fails e (read ts a_statement (statement aliases (d + 1)) m) → Fails e (body_at ts aliases d m)
  body_fails d m e b h f = fails_same e _ _ (body_is d m b h) f

  pub body_goes : (d m : ℕ) (r : Read) (s : Stmt) → begins_statement (sign_at ts aliases m) ≡ true → d < 100
      → read ts a_statement (statement aliases (d + 1)) m ≡ Ok (seen_statement r) → s ≡ r.stmt
      → body_at ts aliases d m ≡ Ok (stmt_shape s.kind s.span, r.next)
  body_goes d m r s b h g q = body_is d m b h ∙ g ∙ ap (λ s. Ok (stmt_shape s.kind s.span, r.next)) (sym q)

  -- a statement that its body ends
  pub ended_fails : (d start : ℕ) (h : Head) (n : ℕ) (e : SyntaxRefusal) → Fails e (body_at ts aliases d n) → Fails e (ended_at ts aliases d start h n)
  ended_fails d start h n e f = fails_then e _ _ f

  pub ended_goes : (d start : ℕ) (h : Head) (n : ℕ) (b : Statement) (k : ℕ) (r : Read) → body_at ts aliases d n ≡ Ok (b, k)
      → seen_statement r ≡ (ended h b (span_over ts start k), k) → ended_at ts aliases d start h n ≡ Ok (seen_statement r)
  ended_goes d start h n b k r g q = goes _ _ b k g ∙ ap Ok (sym q)

  -- the arms of an `if`
  pub arms_fail : (d start : ℕ) (x : Expression) (n : ℕ) (e : SyntaxRefusal) → Fails e (body_at ts aliases d n) → Fails e (arms_at ts aliases d start x n)
  arms_fail d start x n e f = fails_then e _ _ f

  pub arm_alone : (d start : ℕ) (x : Expression) (n : ℕ) (arm : Stmt) (k : ℕ) (r : Read) → body_at ts aliases d n ≡ Ok (stmt_shape arm.kind arm.span, k)
      → sees ts (a_keyword aliases key.Else) k ≡ false → seen_statement r ≡ (if_with x arm None (span_over ts start k), k)
      → arms_at ts aliases d start x n ≡ Ok (seen_statement r)
  arm_alone d start x n arm k r g h q = goes _ _ (stmt_shape arm.kind arm.span) k g ∙ other _ _ _ h ∙ ap Ok (sym q)

  pub other_fails : (d start : ℕ) (x : Expression) (n : ℕ) (arm : Statement) (k : ℕ) (e : SyntaxRefusal) → body_at ts aliases d n ≡ Ok (arm, k)
      → sees ts (a_keyword aliases key.Else) k ≡ true → Fails e (body_at ts aliases d (k + 1)) → Fails e (arms_at ts aliases d start x n)
  other_fails d start x n arm k e g h f = fails_same e _ _ (goes _ _ arm k g ∙ chosen _ _ _ h) (fails_then e _ _ f)

  pub both_arms : (d start : ℕ) (x : Expression) (n : ℕ) (arm : Stmt) (k : ℕ) (s : Bor Stmt) (l : ℕ) (r : Read)
      → body_at ts aliases d n ≡ Ok (stmt_shape arm.kind arm.span, k) → sees ts (a_keyword aliases key.Else) k ≡ true
      → body_at ts aliases d (k + 1) ≡ Ok (stmt_shape s.now.kind s.now.span, l)
      → seen_statement r ≡ (if_with x arm (Some s) (span_over ts start l), l) → arms_at ts aliases d start x n ≡ Ok (seen_statement r)
  both_arms d start x n arm k s l r g h b q =
      goes _ _ (stmt_shape arm.kind arm.span) k g ∙ chosen _ _ _ h ∙ goes _ _ (stmt_shape s.now.kind s.now.span) l b ∙ ap Ok (sym q)

  -- a `do`
  pub do_fails : (d start : ℕ) (e : SyntaxRefusal) → sign_at ts aliases start ≡ sign.Keyword key.Do → Fails e (body_at ts aliases d (start + 1))
      → Fails e (read ts a_statement (statement aliases d) start)
  do_fails d start e s f = fails_same e _ _ (do_is ts aliases d start s) (fails_then e _ _ f)

  pub do_gives : (d start : ℕ) (b : Statement) (k : ℕ) (x : Result Read SyntaxRefusal) → sign_at ts aliases start ≡ sign.Keyword key.Do
      → body_at ts aliases d (start + 1) ≡ Ok (b, k) → Gives seen_statement x (do_end_at ts aliases d start b k)
      → Gives seen_statement x (read ts a_statement (statement aliases d) start)
  do_gives d start b k x s g h = gives_same seen_statement x _ _ (do_is ts aliases d start s ∙ goes _ _ b k g) h

  -- a block
  pub block_unopened : (d start : ℕ) (e : SyntaxRefusal) → sign_at ts aliases start ≡ sign.OpenBrace → Fails e (opening_brace ts aliases d start)
      → Fails e (read ts a_statement (statement aliases d) start)
  block_unopened d start e s f = fails_same e _ _ (block_is ts aliases d start s) (fails_then e _ _ f)

  pub block_fails : (d start n : ℕ) (e : SyntaxRefusal) → sign_at ts aliases start ≡ sign.OpenBrace → opening_brace ts aliases d start ≡ Ok (tt, n)
      → Fails e (read ts some_statements (statements aliases (d + 1)) n) → Fails e (read ts a_statement (statement aliases d) start)
  block_fails d start n e s o f = fails_same e _ _ (block_is ts aliases d start s ∙ goes _ _ tt n o) (fails_then e _ _ f)

  pub block_goes : (d start n : ℕ) (xs : Statements) (k : ℕ) (r : Read) → sign_at ts aliases start ≡ sign.OpenBrace
      → opening_brace ts aliases d start ≡ Ok (tt, n) → read ts some_statements (statements aliases (d + 1)) n ≡ Ok (xs, k)
      → seen_statement r ≡ (block xs (span_over ts start k), k) → read ts a_statement (statement aliases d) start ≡ Ok (seen_statement r)
  block_goes d start n xs k r s o g q = block_is ts aliases d start s ∙ goes _ _ tt n o ∙ goes _ _ xs k g ∙ ap Ok (sym q)

  -- the statements of a block
  pub list_begins : (list : List Stmt) (d at : ℕ) → list ≡ []
      → read ts some_statements (statements aliases d) at ≡ statements_after (stmt_shapes list) (read ts some_statements (statements aliases d) at)
  list_begins list d at e =
      sym (after-nothing (read ts some_statements (statements aliases d) at))
      ∙ ap (λ list. statements_after (stmt_shapes list) (read ts some_statements (statements aliases d) at)) (sym e)

  pub list_ends : (list : List Stmt) (d at next : ℕ) → read ts some_statements (statements aliases d) at ≡ statements_after (stmt_shapes list) (read ts some_statements (statements aliases d) next)
      → sees ts (a_close_brace aliases) next ≡ true → read ts some_statements (statements aliases d) at ≡ Ok (stmt_shapes list, next + 1)
  list_ends list d at next i c = i ∙ stmts_close ts aliases (stmt_shapes list) d next c

  pub list_fails : (list new : List Stmt) (d next : ℕ) (x : Result Read SyntaxRefusal) (e : SyntaxRefusal) → sees ts (a_close_brace aliases) next ≡ false
      → begins_type (sign_at ts aliases next) ≡ false → Gives seen_statement x (read ts a_statement (statement aliases d) next) → IsKept list new x (Err e)
      → Fails e (statements_after (stmt_shapes list) (read ts some_statements (statements aliases d) next))
  list_fails list new d next (Ok r) e c b g k =
      subst (λ e. Fails e (statements_after (stmt_shapes list) (read ts some_statements (statements aliases d) next))) (sym k) tt
  list_fails list new d next (Err f) e c b g k =
      subst (λ e. Fails e (statements_after (stmt_shapes list) (read ts some_statements (statements aliases d) next))) (sym k)
      (another_fails ts aliases (stmt_shapes list) d next f c b g)

  pub list_goes : (list new : List Stmt) (d next : ℕ) (x : Result Read SyntaxRefusal) (n : ℕ) → sees ts (a_close_brace aliases) next ≡ false
      → begins_type (sign_at ts aliases next) ≡ false → Gives seen_statement x (read ts a_statement (statement aliases d) next) → IsKept list new x (Ok n)
      → statements_after (stmt_shapes list) (read ts some_statements (statements aliases d) next)
      ≡ statements_after (stmt_shapes new) (read ts some_statements (statements aliases d) n)
  list_goes list new d next (Ok r) n c b g k =
      another_goes ts aliases (stmt_shapes list) d next (stmt_shape r.stmt.kind r.stmt.span) r.next (stmt_shapes new) c b g
      (ap stmt_shapes k.0 ∙ shapes_push list r.stmt)
      ∙ ap (λ n. statements_after (stmt_shapes new) (read ts some_statements (statements aliases d) n)) (sym k.1)
  list_goes list new d next (Err f) n c b g k = absurd k

-- a new list has no statements and no points
pub none_pointed : (old : List Point) (list : List Stmt) → list ≡ [] → ArePointed old old list
none_pointed old list e = subst (ArePointed old old) (sym e) (sym (append-nil (map point_shape old)), tt)

pub one_pointed : (start old new : List Point) (list longer : List Stmt) (x : Result Read SyntaxRefusal) (n : ℕ) → ArePointed start old list
    → IfOk x (λ r. IsPointed old new r.stmt) → IsKept list longer x (Ok n) → ArePointed start new longer
one_pointed start old new list longer (Ok r) n h p k = subst (ArePointed start new) (sym k.0) (pushed start old new list r.stmt h p)
one_pointed start old new list longer (Err e) n h p k = absurd k

-- the token after a statement that was kept
pub kept_behind : (list longer : List Stmt) (x : Result Read SyntaxRefusal) (at n limit : ℕ) → IfOk x (λ r. (at < r.next) × (r.next ≤ limit))
    → IsKept list longer x (Ok n) → (at < n) × (n ≤ limit)
kept_behind list longer (Ok r) at n limit h k = subst (λ n. (at < n) × (n ≤ limit)) (sym k.1) h
kept_behind list longer (Err e) at n limit h k = absurd k

pub ruleset bodies = (body_wrong, body_deep, body_fails, body_goes)

pub ruleset endings = (ended_fails, ended_goes)

pub ruleset arms = (arms_fail, arm_alone, other_fails, both_arms)

pub ruleset dos = (do_fails, do_gives, sign_within)

pub ruleset blocks = (block_unopened, block_fails, block_goes)

pub ruleset lists = (list_ends, list_fails, kept_behind)
