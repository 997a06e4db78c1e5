-- Statements with their bodies, and their points.
use Rattle.std.proofs.Common.{ℕ, ◌+◌, ◌≡◌, ◌∙◌, Option, Some, None, ap, sym, subst, refl, List, [], ◌∷◌, ◌++◌, length, map, option_map}
use Rattle.std.proofs.Common.{arith, Ok}
use Rattle.std.proofs.lemmas.List.{length-append, length-map}
use Rattle.std.specs.Borrow.{Bor}
use Rattle.tsa_base.specs.declared.token.Span.{Span}
use Rattle.tsa_base.specs.Tokens.{Lexeme}
use Rattle.tsa_grammar.proofs.Cases.{goes}
use Rattle.tsa_tree.specs.declared.expr.Expr.{Expr}
use Rattle.tsa_tree.specs.declared.sign.Keyword.TheVariants as key
use Rattle.tsa_tree.specs.declared.stmt.Point.{Point}
use Rattle.tsa_tree.specs.declared.stmt.Stmt.{Stmt}
use Rattle.tsa_tree.specs.declared.stmt.StmtKind.{StmtKind, Row_of-Stmt, end_of-Stmt, more_of-Stmt, items-the_row-Stmt}
use Rattle.tsa_tree.specs.declared.stmt.StmtKind.{items_hidden-the_row-Stmt-0}
use Rattle.tsa_tree.specs.declared.stmt.StmtKind.TheVariants as kind
use Rattle.tsa_tree.specs.declared.stmt.StmtKind.TheVariants.{Local, Eval, Assign}
use Rattle.tsa_tree.specs.expressions.Syntax.{Expression}
use Rattle.tsa_tree.specs.points.Syntax.{PlacedDeed, tests, points_of, points_of_init, points_of_step, point_of_test, point_of_for}
use Rattle.tsa_tree.specs.Rows.{a_keyword, a_semicolon}
use Rattle.tsa_tree.specs.expressions.Shapes.{shape}
use Rattle.tsa_tree.specs.tokens.Signs.{Aliases, span_at, span_over}
use Rattle.tsa_tree.specs.statements.Syntax.{Statement, do_loop, block, more}
use Rattle.tsa_tree.specs.statements.Shapes.{stmt_shape, stmt_shapes, stmt_row_shape, point_shape, IsNumbered, AreNumbered}
use Rattle.tsa_tree.specs.statements.Shapes.{AreNumberedInRow, init_of, step_of, counted, MayBeFirst, MayBeThird}
use Rattle.tsa_tree.proofs.statements.Trees.{row_of}
use Rattle.tsa_expr.specs.declared.refusal.SyntaxRefusal.{SyntaxRefusal}
use Rattle.tsa_expr.specs.Gives.{Fails}
use Rattle.tsa_expr.proofs.Answering.{fails_then, fails_same}
use Rattle.tsa_attr.proofs.Joining.{append-append}
use Rattle.tsa_decl_declarators.specs.Outcomes.{one_token}
use Rattle.tsa_unit_heads.specs.declared.heads.Head.{Head}
use Rattle.tsa_unit_heads.specs.declared.heads.Head.TheVariants as head
use Rattle.tsa_unit_heads.specs.declared.heads.Marked.{Marked}
use Rattle.tsa_unit_heads.specs.Heads.{IsMarked, IsOpened, ended}
use Rattle.tsa_unit_statements.specs.Closings.{ended_with, if_with, do_end_at}
use Rattle.tsa_unit_simple.specs.Outcomes.{test_at}
use Rattle.tsa_unit_simple.specs.PointNumbers.{IsPointed, ArePointed, ArmsPointed, IsPartAt, IsStepAt}
use Rattle.tsa_unit_simple.specs.Readings.{init_seen, step_seen}

-- one point, and then a body
one_ahead : (first middle last : List Point) (p : PlacedDeed) (body : List PlacedDeed) → map point_shape middle ≡ map point_shape first ++ p ∷ []
    → map point_shape last ≡ map point_shape middle ++ body → map point_shape last ≡ map point_shape first ++ p ∷ body
one_ahead first middle last p body h k =
    k ∙ ap (λ ps. ps ++ body) h ∙ append-append (map point_shape first) (p ∷ []) body

grown : (first middle : List Point) (ps : List PlacedDeed) → map point_shape middle ≡ map point_shape first ++ ps → length middle ≡ length first + length ps
grown first middle ps h =
    sym (length-map middle point_shape) ∙ ap length h ∙ length-append (map point_shape first) ps ∙ ap (λ n. n + length ps) (length-map first point_shape)

numbered_on : (s : Stmt) (m n : ℕ) → m ≡ n → IsNumbered s.kind s.point s.span m → IsNumbered s.kind s.point s.span n
numbered_on s m n e h = subst (λ n. IsNumbered s.kind s.point s.span n) e h

pub while_pointed : (first middle last : List Point) (test : Bor Expr) (number : ℕ) (body : Bor Stmt) (word span : Span)
    → IsOpened word first middle (head.While test number) → IsPointed middle last body.now
    → IsPointed first last (record { kind = kind.While test body; point = Some number; span = span })
while_pointed first middle last test number body word span h k = (
  one_ahead first middle last (point_of_test (shape test.now)) _ h.0 k.0,
  (ap Some h.1, numbered_on body.now _ _ (grown first middle _ h.0) k.1),
)

pub switch_pointed : (first middle last : List Point) (value : Bor Expr) (number : ℕ) (body : Bor Stmt) (word span : Span)
    → IsOpened word first middle (head.Switch value number) → IsPointed middle last body.now
    → IsPointed first last (record { kind = kind.Switch value body; point = Some number; span = span })
switch_pointed first middle last value number body word span h k = (
  one_ahead first middle last _ _ h.0 k.0,
  (ap Some h.1, numbered_on body.now _ _ (grown first middle _ h.0) k.1),
)

-- what may stand in a `for` has one point
init_count : (k : StmtKind) (s : Span) → MayBeFirst k s → length (points_of_init (init_of k s)) ≡ counted k s
init_count (Local d) s h = refl
init_count (Eval x) s h = refl
init_count (Assign l o r) s h = refl
init_count _ s h = absurd h

step_count : (k : StmtKind) (s : Span) → MayBeThird k → length (points_of_step (step_of k s)) ≡ counted k s
step_count (Eval x) s h = refl
step_count (Assign l o r) s h = refl
step_count _ s h = absurd h

for_numbered : (n number : ℕ) (init : Option (Bor Stmt)) (test : Option (Bor Expr)) (step : Option (Bor Stmt)) (body : Bor Stmt) (span : Span)
    → IsPartAt init n → number ≡ n + length (points_of_init (init_seen init)) → IsStepAt step (number + 1)
    → IsNumbered body.now.kind body.now.point body.now.span (number + 1 + length (points_of_step (step_seen step)))
    → IsNumbered (kind.For init test step body) (Some number) span n
for_numbered n number None test None body span i e s b =
    let q : number ≡ n = omega (arith, e) in
    (tt, ap Some e, tt, numbered_on body.now _ _ (omega (arith, e)) b)
for_numbered n number (Some x) test None body span i e s b =
    let c = init_count x.now.kind x.now.span i.0 in
    (i, ap Some (e ∙ ap (λ m. n + m) c), tt, numbered_on body.now _ _ (omega (arith, e, c)) b)
for_numbered n number None test (Some y) body span i e s b =
    let c = step_count y.now.kind y.now.span s.0 in
    (tt, ap Some e, (s.0, s.1 ∙ ap (λ m. Some (m + 1)) e), numbered_on body.now _ _ (omega (arith, e, c)) b)
for_numbered n number (Some x) test (Some y) body span i e s b =
    let c = init_count x.now.kind x.now.span i.0 in
    let f = step_count y.now.kind y.now.span s.0 in
    let g : number ≡ n + counted x.now.kind x.now.span = e ∙ ap (λ m. n + m) c in
    (i, ap Some g, (s.0, s.1 ∙ ap (λ m. Some (m + 1)) g), numbered_on body.now _ _ (omega (arith, g, f)) b)

-- the point of a `for` depends on where its word begins alone
for_point : (word span : Span) (test : Option Expression) → span.from ≡ word.from → point_of_for word test ≡ point_of_for span test
for_point word span None e = ap (λ from. record { deed = tests None; span = record { from = from; to = from + 3 } }) (sym e)
for_point word span (Some x) e = refl

pub for_pointed : (first middle last : List Point) (init : Option (Bor Stmt)) (test : Option (Bor Expr)) (number : ℕ) (step : Option (Bor Stmt)) (body : Bor Stmt)
    (word span : Span) → span.from ≡ word.from → IsOpened word first middle (head.For init test number step) → IsPointed middle last body.now
    → IsPointed first last (record { kind = kind.For init test step body; point = Some number; span = span })
for_pointed first middle last init test number step body word span f h k =
    let before = points_of_init (init_seen init) in
    let after = points_of_step (step_seen step) in
    let inner = points_of (stmt_shape body.now.kind body.now.span) in
    let point = point_of_for word (option_map (λ x. shape x.now) test) in
    let counted : length middle ≡ length first + length (before ++ point ∷ after) = grown first middle (before ++ point ∷ after) h.0 in
    let apart : length (before ++ point ∷ after) ≡ length before + length (point ∷ after) = length-append before (point ∷ after) in (
      shaped init step (k.0 ∙ ap (λ ps. ps ++ inner) h.0 ∙ append-append (map point_shape first) (before ++ point ∷ after) inner
          ∙ ap (λ ps. map point_shape first ++ ps) (append-append before (point ∷ after) inner ∙ ap (λ p. before ++ p ∷ (after ++ inner)) (for_point word span (option_map (λ x. shape x.now) test) f))),
      for_numbered (length first) number init test step body span h.1 h.2 h.3 (numbered_on body.now _ _ (omega (arith, counted, apart, h.2)) k.1),
    )
  where
    shaped : (i s : Option (Bor Stmt))
        → map point_shape last ≡ map point_shape first ++ (points_of_init (init_seen i) ++ point_of_for span (option_map (λ x. shape x.now) test) ∷ (points_of_step (step_seen s) ++ points_of (stmt_shape body.now.kind body.now.span)))
        → map point_shape last ≡ map point_shape first ++ points_of (stmt_shape (kind.For i test s body) span)
    shaped None None q = q
    shaped None (Some y) q = q
    shaped (Some x) None q = q
    shaped (Some x) (Some y) q = q

pub ended_pointed : (first middle last : List Point) (h : Head) (body : Bor Stmt) (word span : Span) (s : Stmt) → span.from ≡ word.from
    → s ≡ ended_with h body span → IsOpened word first middle h → IsPointed middle last body.now → IsPointed first last s
ended_pointed first middle last h body word span s f e o k = subst (IsPointed first last) (sym e) (go h o)
  where
    go : (h : Head) → IsOpened word first middle h → IsPointed first last (ended_with h body span)
    go (head.While test number) o = while_pointed first middle last test number body word span o k
    go (head.Switch value number) o = switch_pointed first middle last value number body word span o k
    go (head.For init test number step) o = for_pointed first middle last init test number step body word span f o k
    go (head.Case value) o = subst (λ m. IsPointed m last body.now → IsPointed first last (ended_with (head.Case value) body span)) (sym o) (λ k. (k.0, (refl, k.1))) k
    go head.Otherwise o = subst (λ m. IsPointed m last body.now → IsPointed first last (ended_with head.Otherwise body span)) (sym o) (λ k. (k.0, (refl, k.1))) k
    go (head.Label name) o = subst (λ m. IsPointed m last body.now → IsPointed first last (ended_with (head.Label name) body span)) (sym o) (λ k. (k.0, (refl, k.1))) k

-- an `if` with its arms
pub if_pointed : (first middle between last : List Point) (marked : Marked) (arm : Bor Stmt) (other : Option (Bor Stmt)) (span : Span)
    → IsMarked first middle marked → IsPointed middle between arm.now → ArmsPointed between last other
    → IsPointed first last (record { kind = kind.If marked.test arm other; point = Some marked.number; span = span })
if_pointed first middle between last marked arm None span h k o =
    subst (λ new. IsPointed first new (record { kind = kind.If marked.test arm None; point = Some marked.number; span = span })) (sym o)
    (one_ahead first middle between _ _ h.0 k.0, (ap Some h.1, numbered_on arm.now _ _ (grown first middle _ h.0) k.1, tt))
if_pointed first middle between last marked arm (Some s) span h k o =
    let inner = points_of (stmt_shape arm.now.kind arm.now.span) in
    let point = point_of_test (shape marked.test.now) in
    let counted : length middle ≡ length first + 1 = grown first middle (point ∷ []) h.0 in
    let further : length between ≡ length middle + length inner = grown middle between inner k.0 in (
      o.0 ∙ ap (λ ps. ps ++ points_of (stmt_shape s.now.kind s.now.span)) (one_ahead first middle between point inner h.0 k.0)
          ∙ append-append (map point_shape first) (point ∷ inner) (points_of (stmt_shape s.now.kind s.now.span)),
      (ap Some h.1, numbered_on arm.now _ _ counted k.1, numbered_on s.now _ _ (omega (arith, counted, further)) o.1),
    )

pub if_shaped : (test : Bor Expr) (arm : Bor Stmt) (other : Option (Bor Stmt)) (span : Span)
    → stmt_shape (kind.If test arm other) span ≡ if_with (shape test.now) arm.now other span
if_shaped test arm None span = refl
if_shaped test arm (Some s) span = refl

-- a `do` with its test
pub do_pointed : (first middle last : List Point) (body : Bor Stmt) (test : Bor Expr) (number : ℕ) (span : Span) → IsPointed first middle body.now
    → map point_shape last ≡ map point_shape middle ++ point_of_test (shape test.now) ∷ [] → number ≡ length middle
    → IsPointed first last (record { kind = kind.DoWhile body test; point = Some number; span = span })
do_pointed first middle last body test number span h k e = (
  k ∙ ap (λ ps. ps ++ point_of_test (shape test.now) ∷ []) h.0 ∙ append-append (map point_shape first) (points_of (stmt_shape body.now.kind body.now.span)) _,
  (h.1, ap Some (e ∙ grown first middle _ h.0)),
)

module _ (ts : List Lexeme) (aliases : Aliases) where
  pub do_wordless : (d start : ℕ) (body : Statement) (n : ℕ) (e : SyntaxRefusal) → Fails e (one_token ts (a_keyword aliases key.While) n)
      → Fails e (do_end_at ts aliases d start body n)
  do_wordless d start body n e f = fails_then e _ _ f

  pub do_testless : (d start : ℕ) (body : Statement) (n k : ℕ) (e : SyntaxRefusal) → one_token ts (a_keyword aliases key.While) n ≡ Ok (tt, k)
      → Fails e (test_at ts aliases d k) → Fails e (do_end_at ts aliases d start body n)
  do_testless d start body n k e o f = fails_same e _ _ (goes _ _ tt k o) (fails_then e _ _ f)

  pub do_endless : (d start : ℕ) (body : Statement) (n k : ℕ) (x : Expression) (j : ℕ) (e : SyntaxRefusal) → one_token ts (a_keyword aliases key.While) n ≡ Ok (tt, k)
      → test_at ts aliases d k ≡ Ok (x, j) → Fails e (one_token ts (a_semicolon aliases) j) → Fails e (do_end_at ts aliases d start body n)
  do_endless d start body n k x j e o t f = fails_same e _ _ (goes _ _ tt k o ∙ goes _ _ x j t) (fails_then e _ _ f)

  pub do_goes : (d start : ℕ) (body : Statement) (n k : ℕ) (x : Expression) (j l : ℕ) (span : Span) → one_token ts (a_keyword aliases key.While) n ≡ Ok (tt, k)
      → test_at ts aliases d k ≡ Ok (x, j) → one_token ts (a_semicolon aliases) j ≡ Ok (tt, l) → span ≡ span_over ts start l
      → do_end_at ts aliases d start body n ≡ Ok (do_loop body x span, l)
  do_goes d start body n k x j l span o t s e =
      goes _ _ tt k o ∙ goes _ _ x j t ∙ goes _ _ tt l s ∙ ap (λ span. Ok (do_loop body x span, l)) (sym e)

-- a block, as it was kept
row_shaped : (n : _) (row : Row_of-Stmt n) → stmt_row_shape row ≡ stmt_shapes (items-the_row-Stmt n row)
row_shaped n end_of-Stmt = refl
row_shaped n (more_of-Stmt k point own rest) = ap (more (stmt_shape k own)) (row_shaped _ rest)

row_numbered : (n : _) (row : Row_of-Stmt n) (m : ℕ) → AreNumbered (items-the_row-Stmt n row) m → AreNumberedInRow row m
row_numbered n end_of-Stmt m h = tt
row_numbered n (more_of-Stmt k point own rest) m h = (h.0, row_numbered _ rest _ h.1)

pub block_shaped : (items : Bor (List Stmt)) (span : Span) → stmt_shape (kind.Block items) span ≡ block (stmt_shapes items.now) span
block_shaped items span =
    let row = row_of (kind.Block items) in
    ap (λ xs. block xs span) (row_shaped row.0 row.1 ∙ ap stmt_shapes (items_hidden-the_row-Stmt-0 items.now))

pub block_pointed : (first last : List Point) (items : Bor (List Stmt)) (span : Span) → ArePointed first last items.now
    → IsPointed first last (record { kind = kind.Block items; point = None; span = span })
block_pointed first last items span h =
    let row = row_of (kind.Block items) in (
      h.0 ∙ ap (λ ps. map point_shape first ++ ps) (sym (ap points_of (block_shaped items span))),
      (refl, row_numbered row.0 row.1 (length first) (subst (λ xs. AreNumbered xs (length first)) (sym (items_hidden-the_row-Stmt-0 items.now)) h.1)),
    )

pub ruleset ifs = (if_pointed, if_shaped)

pub ruleset dos = (do_wordless, do_testless, do_endless, do_goes, do_pointed)

pub ruleset blocks = (block_shaped, block_pointed)

pub ended_shaped : (h : Head) (body : Bor Stmt) (span : Span) (s : Stmt) → s ≡ ended_with h body span
    → stmt_shape s.kind s.span ≡ ended h (stmt_shape body.now.kind body.now.span) span
ended_shaped h body span s e = ap (λ s. stmt_shape s.kind s.span) e ∙ go h
  where
    go : (h : Head) → stmt_shape (ended_with h body span).kind (ended_with h body span).span ≡ ended h (stmt_shape body.now.kind body.now.span) span
    go (head.While test number) = refl
    go (head.Switch value number) = refl
    go (head.For None test number None) = refl
    go (head.For None test number (Some y)) = refl
    go (head.For (Some x) test number None) = refl
    go (head.For (Some x) test number (Some y)) = refl
    go (head.Case value) = refl
    go head.Otherwise = refl
    go (head.Label name) = refl

pub over_from : (ts : List Lexeme) (start n : ℕ) (span : Span) → span ≡ span_over ts start n → span.from ≡ (span_at ts start).from
unfolding span_over
over_from ts start n span e = ap (λ s. s.from) e
