-- Statements that bear the numbers of their points have parts that do.
use Rattle.std.proofs.Common.{◌≡◌, ◌∙◌, ℕ, zero, suc, ◌+◌, ◌-◌, ◌<◌, ◌≤◌, arith, drop, get_or, List, [], ◌∷◌, length, Option, Some, None, sym}
use Rattle.std.proofs.Common.{option_map, refl, ap, subst}
use Rattle.std.specs.Borrow.{Bor}
use Rattle.tsa_base.specs.declared.token.Span.{Span}
use Rattle.tsa_core.proofs.Counts.{count_for, count_more}
use Rattle.tsa_core.specs.Control.{count, count_all}
use Rattle.tsa_tree.specs.declared.expr.Expr.{Expr}
use Rattle.tsa_tree.specs.declared.stmt.Stmt.{Stmt}
use Rattle.tsa_tree.specs.declared.stmt.StmtKind.{StmtKind, Row_of-Stmt, end_of-Stmt, more_of-Stmt, items-the_row-Stmt}
use Rattle.tsa_tree.specs.declared.stmt.StmtKind.{items_hidden-the_row-Stmt-0}
use Rattle.tsa_tree.specs.declared.stmt.StmtKind.TheVariants as kind
use Rattle.tsa_tree.specs.declared.stmt.StmtKind.TheVariants.{Local, Eval, Assign}
use Rattle.tsa_tree.specs.expressions.Shapes.{shape}
use Rattle.tsa_tree.specs.points.Syntax.{points_of_init, points_of_step}
use Rattle.tsa_tree.specs.statements.Shapes.{stmt_shapes, counted, init_of, step_of, init_given, step_given, MayBeFirst, MayBeThird}
use Rattle.tsa_tree.specs.statements.Shapes.{IsNumbered, AreNumbered, AreNumberedInRow}
use Rattle.tsa_tree.proofs.statements.Trees.{shape_of, row_of, block_at, for_at}
use Rattle.tsa_graph_edges.specs.PointNumbers.{IsPartTo, IsNumberedTo, IsTestTo, AreNumberedTo}
use Rattle.tsa_graph_edges.proofs.Putting.{item_before}

-- a statement of that kind begins at some number
whole : (x : Stmt) (k : StmtKind) (e : ℕ) → x.kind ≡ k → IsNumberedTo x e → (at : ℕ) × (at + counted x.kind x.span ≡ e) × IsNumbered k x.point x.span at
whole x k e is h =
    let a : h.at + 0 ≡ h.at = omega arith in
    (h.at, omega (arith, h.ends), subst (λ n. IsNumbered k x.point x.span n) a (subst (λ k. IsNumbered k x.point x.span (h.at + 0)) is h.numbered))

part : (before : ℕ) (x : Stmt) (behind e at m : ℕ) → m ≡ at + before → m + counted x.kind x.span + behind ≡ e → IsNumbered x.kind x.point x.span m
    → IsPartTo before x behind e
part before x behind e at m is ends h = record { at = at; ends = omega (arith, is, ends); numbered = subst (λ n. IsNumbered x.kind x.point x.span n) is h }

module _ (x : Stmt) (test : Bor Expr) (body : Bor Stmt) (e : ℕ) (h : IsNumberedTo x e) where
  pub while_test : x.kind ≡ kind.While test body → IsTestTo 0 x.point (counted body.now.kind body.now.span) e
  while_test is =
      let k = whole x (kind.While test body) e is h in
      let c : counted x.kind x.span ≡ suc (counted body.now.kind body.now.span) = ap (λ k. counted k x.span) is in
      let a : k.0 ≡ k.0 + 0 = omega arith in
      record { at = k.0; number = k.2.0 ∙ ap Some a; ends = omega (arith, k.1, c) }

  pub while_body : x.kind ≡ kind.While test body → IsNumberedTo body.now e
  while_body is =
      let k = whole x (kind.While test body) e is h in
      let c : counted x.kind x.span ≡ suc (counted body.now.kind body.now.span) = ap (λ k. counted k x.span) is in
      part 0 body.now 0 e (k.0 + 1) (k.0 + 1) (omega arith) (omega (arith, k.1, c)) k.2.1

-- what may stand in a `for` has one point
init_count : (k : StmtKind) (s : Span) → MayBeFirst k s → counted k s ≡ length (points_of_init (init_of k s))
init_count (Local d) s h = refl
init_count (Eval x) s h = refl
init_count (Assign l o r) s h = refl
init_count _ s h = absurd h

step_count : (k : StmtKind) (s : Span) → MayBeThird k → counted k s ≡ length (points_of_step (step_of k s))
step_count (Eval x) s h = refl
step_count (Assign l o r) s h = refl
step_count _ s h = absurd h

abbrev inits : Option (Bor Stmt) → ℕ
inits init = length (points_of_init (init_given init))

abbrev steps : Option (Bor Stmt) → ℕ
steps step = length (points_of_step (step_given step))

module _ (x : Stmt) (init : Option (Bor Stmt)) (test : Option (Bor Expr)) (step : Option (Bor Stmt)) (body : Bor Stmt) (e : ℕ) (is : x.kind ≡ kind.For init test step body)
    (h : IsNumberedTo x e) where
  abbrev Laid : (n a b : ℕ) → Type 0
  Laid n a b = (x.point ≡ Some (n + a)) × IsNumbered body.now.kind body.now.point body.now.span (n + a + 1 + b)

  laid : (i s : Option (Bor Stmt)) (n : ℕ) → IsNumbered (kind.For i test s body) x.point x.span n → Laid n (inits i) (steps s)
  laid None None n g = (g.1, g.3)
  laid (Some i) None n g = subst (λ a. Laid n a 0) (init_count i.now.kind i.now.span g.0.0) (g.1, g.3)
  laid None (Some s) n g = subst (λ b. Laid n 0 b) (step_count s.now.kind s.now.span g.2.0) (g.1, g.3)
  laid (Some i) (Some s) n g =
      subst (λ a. Laid n a (steps (Some s))) (init_count i.now.kind i.now.span g.0.0)
      (subst (λ b. Laid n (counted i.now.kind i.now.span) b) (step_count s.now.kind s.now.span g.2.0) (g.1, g.3))

  looped : (at : ℕ) × (at + counted x.kind x.span ≡ e) × IsNumbered (kind.For init test step body) x.point x.span at
  looped = whole x (kind.For init test step body) e is h

  for_count : counted x.kind x.span ≡ suc (inits init + (steps step + counted body.now.kind body.now.span))
  for_count =
      ap count (for_at x init test step body is)
      ∙ count_for (init_given init) (option_map (λ x. shape x.now) test) (step_given step) (shape_of body.now) x.span

  pub for_test : IsTestTo (inits init) x.point (steps step + counted body.now.kind body.now.span) e
  for_test =
      let c = for_count in
      record { at = looped.0; number = (laid init step looped.0 looped.2).0; ends = omega (arith, looped.1, c) }

  pub for_body : IsNumberedTo body.now e
  for_body =
      let c = for_count in
      let n = looped.0 + inits init + 1 + steps step in
      part 0 body.now 0 e n n (omega arith) (omega (arith, looped.1, c)) (laid init step looped.0 looped.2).1

-- a block, as it is kept
row_items : (n : _) (row : Row_of-Stmt n) (m : ℕ) → AreNumberedInRow row m → AreNumbered (items-the_row-Stmt n row) m
row_items n end_of-Stmt m h = tt
row_items n (more_of-Stmt k point own rest) m h = (h.0, row_items _ rest _ h.1)

pub block_part : (x : Stmt) (items : Bor (List Stmt)) (e : ℕ) → x.kind ≡ kind.Block items → IsNumberedTo x e → AreNumberedTo items.now e
block_part x items e is h =
    let w = whole x (kind.Block items) e is h in
    let row = row_of (kind.Block items) in
    let c : counted x.kind x.span ≡ count_all (stmt_shapes items.now) = ap count (block_at x items is) in
    record {
      at = w.0;
      ends = omega (arith, w.1, c);
      numbered = subst (λ xs. AreNumbered xs w.0) (items_hidden-the_row-Stmt-0 items.now) (row_items row.0 row.1 w.0 w.2.1);
    }

-- one of some statements
item_at : (items : List Stmt) (n k : ℕ) (d : Stmt) → k < length items → AreNumbered items n
    → (at : ℕ) × (at + count_all (stmt_shapes (drop k items)) ≡ n + count_all (stmt_shapes items)) × IsNumbered (get_or items k d).kind (get_or items k d).point (get_or items k d).span at
item_at [] n k d h g = let no : ⊥ = omega (arith, h) in absurd no
item_at (x ∷ xs) n zero d h g = (n, refl, g.0)
item_at (x ∷ xs) n (suc k) d h g =
    let r = item_at xs (n + counted x.kind x.span) k d (omega (arith, h)) g.1 in
    let c = count_more (shape_of x) (stmt_shapes xs) in
    (r.0, omega (arith, r.1, c), r.2)

pub item_part : (items : List Stmt) (n : ℕ) (d : Stmt) (e to : ℕ) → 0 < n → n ≤ length items → AreNumberedTo items e → to + count_all (stmt_shapes (drop n items)) ≡ e
    → IsNumberedTo (get_or items (n - 1) d) to
item_part items n d e to some within h ends =
    let x = get_or items (n - 1) d in
    let i = item_at items h.at (n - 1) d (omega (arith, some, within)) h.numbered in
    let c : count_all (stmt_shapes (drop (n - 1) items)) ≡ counted x.kind x.span + count_all (stmt_shapes (drop n items)) =
    ap (λ xs. count_all (stmt_shapes xs)) (item_before items n d some within) ∙ count_more (shape_of x) (stmt_shapes (drop n items))
    in
    part 0 x 0 to i.0 i.0 (omega arith) (omega (arith, i.1, c, ends, h.ends)) i.2

-- a part alone
pub to_part : (before : ℕ) (x : Stmt) (e : ℕ) → IsPartTo before x 0 e → IsNumberedTo x e
to_part before x e h = part 0 x 0 e (h.at + before) (h.at + before) (omega arith) (omega (arith, h.ends)) h.numbered

pub ahead_part : (x y : Stmt) (e mid : ℕ) → IsPartTo 1 x (counted y.kind y.span) e → mid + counted y.kind y.span ≡ e → IsNumberedTo x mid
ahead_part x y e mid h ends = part 0 x 0 mid (h.at + 1) (h.at + 1) (omega arith) (omega (arith, h.ends, ends)) h.numbered

-- the number in front of a part that has a point before it
pub one_before : (x : Stmt) (e at : ℕ) → IsPartTo 1 x 0 e → at + counted x.kind x.span ≡ e → (at - 1) + 1 ≡ at
one_before x e at h ends = omega (arith, h.ends, ends)

pub arm_before : (x y : Stmt) (e mid at : ℕ) → IsPartTo 1 x (counted y.kind y.span) e → mid + counted y.kind y.span ≡ e → at + counted x.kind x.span ≡ mid → (at - 1) + 1 ≡ at
arm_before x y e mid at h outer inner = omega (arith, h.ends, outer, inner)

-- where the body of a loop begins
module _ (before : ℕ) (point : Option ℕ) (e test : ℕ) (is : point ≡ Some test) where
  number_is : (behind : ℕ) (h : IsTestTo before point behind e) → h.at + before ≡ test
  number_is behind h = let same : Some (h.at + before) ≡ Some test = sym h.number ∙ is in cc

  pub body_behind : (behind count at : ℕ) → IsTestTo before point (behind + count) e → at + count ≡ e → at ≡ test + 1 + behind
  body_behind behind count at h ends = let same = number_is (behind + count) h in omega (arith, h.ends, same, ends)

pub body_next : (point : Option ℕ) (e test count at : ℕ) → point ≡ Some test → IsTestTo 0 point count e → at + count ≡ e → at ≡ test + 1
body_next point e test count at is h ends = let same = number_is 0 point e test is count h in omega (arith, h.ends, same, ends)
