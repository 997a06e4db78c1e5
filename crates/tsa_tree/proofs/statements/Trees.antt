-- Statements in the arena, and how tall they are.
use Rattle.std.proofs.Common.{ℕ, ◌≡◌, ◌∙◌, ◌+◌, max, List, Option, Some, None, option_map, refl, ap}
use Rattle.std.specs.Borrow.{Bor}
use mathlib.Core.Former.{Count}
use Rattle.tsa_base.specs.declared.token.Span.{Span}
use Rattle.tsa_tree.specs.declared.expr.Expr.{Expr}
use Rattle.tsa_tree.specs.declared.stmt.Stmt.{Stmt}
use Rattle.tsa_tree.specs.declared.stmt.StmtKind.{StmtKind, Row_of-Stmt, end_of-Stmt, more_of-Stmt, items-the_row-Stmt}
use Rattle.tsa_tree.specs.declared.stmt.StmtKind.{items_hidden-the_row-Stmt-0}
use Rattle.tsa_tree.specs.declared.stmt.StmtKind.TheVariants as kind
use Rattle.tsa_tree.specs.declared.stmt.StmtKind.TheVariants.{Block'}
use Rattle.tsa_tree.specs.statements.Syntax.{Statement, block, empty, local, simple, if_alone, if_else, while_loop, do_loop, for_loop}
use Rattle.tsa_tree.specs.statements.Syntax.{switch, case, otherwise, label, break, continue, goto, return, Statements, none, more}
use Rattle.tsa_tree.specs.expressions.Shapes.{shape}
use Rattle.tsa_tree.specs.statements.Shapes.{init_given, step_given, stmt_shape, stmt_shapes, stmt_row_shape}

abbrev mutual
  pub tall : Statement → ℕ
  tall (block items span) = 1 + talls items
  tall (if_alone test arm span) = 1 + tall arm
  tall (if_else test arm other span) = 1 + max (tall arm) (tall other)
  tall (while_loop test body span) = 1 + tall body
  tall (do_loop body test span) = 1 + tall body
  tall (for_loop init test step body span) = 1 + tall body
  tall (switch x body span) = 1 + tall body
  tall (case x body span) = 1 + tall body
  tall (otherwise body span) = 1 + tall body
  tall (label name body span) = 1 + tall body
  tall (empty span) = 1
  tall (local d) = 1
  tall (simple x) = 1
  tall (break span) = 1
  tall (continue span) = 1
  tall (goto name span) = 1
  tall (return x span) = 1

  pub talls : Statements → ℕ
  talls none = 0
  talls (more first rest) = max (tall first) (talls rest)

abbrev pub shape_of : Stmt → Statement
shape_of x = stmt_shape x.kind x.span

abbrev pub tall_given : Option (Bor Stmt) → ℕ
tall_given None = 0
tall_given (Some x) = tall (shape_of x.now)

row-shapes : (n : _) (row : Row_of-Stmt n) → stmt_row_shape row ≡ stmt_shapes (items-the_row-Stmt n row)
row-shapes n end_of-Stmt = refl
row-shapes n (more_of-Stmt k point own rest) = ap (more (stmt_shape k own)) (row-shapes _ rest)

abbrev pub row_of : StmtKind → (n : Count) × Row_of-Stmt n
row_of (Block' _ _ row) = (_, row)
row_of _ = (_, end_of-Stmt)

shape-block : (items : Bor (List Stmt)) (span : Span) → stmt_shape (kind.Block items) span ≡ block (stmt_shapes items.now) span
shape-block items span =
    let row = row_of (kind.Block items) in
    ap (λ xs. block xs span) (row-shapes row.0 row.1 ∙ ap stmt_shapes (items_hidden-the_row-Stmt-0 items.now))

pub block_at : (x : Stmt) (items : Bor (List Stmt)) → x.kind ≡ kind.Block items → shape_of x ≡ block (stmt_shapes items.now) x.span
block_at x items is = ap (λ k. stmt_shape k x.span) is ∙ shape-block items x.span

-- a `for` with the parts that may be left out
pub for_at : (x : Stmt) (init : Option (Bor Stmt)) (test : Option (Bor Expr)) (step : Option (Bor Stmt)) (body : Bor Stmt) → x.kind ≡ kind.For init test step body
    → shape_of x ≡ for_loop (init_given init) (option_map (λ x. shape x.now) test) (step_given step) (shape_of body.now) x.span
for_at x init test step body is = ap (λ k. stmt_shape k x.span) is ∙ parts init step
  where
    parts : (i s : Option (Bor Stmt)) → stmt_shape (kind.For i test s body) x.span
        ≡ for_loop (init_given i) (option_map (λ x. shape x.now) test) (step_given s) (shape_of body.now) x.span
    parts None None = refl
    parts None (Some s) = refl
    parts (Some i) None = refl
    parts (Some i) (Some s) = refl

-- an `if` with an `else`
pub else_at : (x : Stmt) (test : Bor Expr) (arm other : Bor Stmt) (given : Option (Bor Stmt)) → x.kind ≡ kind.If test arm given → given ≡ Some other
    → shape_of x ≡ if_else (shape test.now) (shape_of arm.now) (shape_of other.now) x.span
else_at x test arm other given is some = ap (λ k. stmt_shape k x.span) is ∙ ap (λ g. stmt_shape (kind.If test arm g) x.span) some
