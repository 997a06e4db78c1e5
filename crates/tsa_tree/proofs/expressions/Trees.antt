-- The arguments of a call in the arena, as a list.
use Rattle.std.proofs.Common.{◌≡◌, ◌∙◌, List, refl, ap}
use Rattle.std.specs.Borrow.{Bor}
use mathlib.Core.Former.{Count}
use Rattle.tsa_base.specs.declared.token.Span.{Span}
use Rattle.tsa_tree.specs.declared.expr.Name.{Name}
use Rattle.tsa_tree.specs.declared.expr.Expr.{Expr}
use Rattle.tsa_tree.specs.declared.expr.ExprKind.{ExprKind, Call, Call', Row_of-Expr, end_of-Expr, more_of-Expr, items-the_row-Expr}
use Rattle.tsa_tree.specs.declared.expr.ExprKind.{items_hidden-the_row-Expr-0}
use Rattle.tsa_tree.specs.expressions.Syntax.{call, more}
use Rattle.tsa_tree.specs.expressions.Shapes.{name_shape, kind_shape, row_shape, shape, shapes}

pub row-shapes : (n : _) (row : Row_of-Expr n) → row_shape row ≡ shapes (items-the_row-Expr n row)
row-shapes n end_of-Expr = refl
row-shapes n (more_of-Expr kind span rest) = ap (more (kind_shape kind span)) (row-shapes _ rest)

abbrev pub row_of : ExprKind → (n : Count) × Row_of-Expr n
row_of (Call' _ _ _ row) = (_, row)
row_of _ = (_, end_of-Expr)

shape-call : (callee : Name) (args : Bor (List Expr)) (span : Span)
    → kind_shape (Call callee args) span ≡ call (name_shape callee) (shapes args.now) span
shape-call callee args span =
    let row = row_of (Call callee args) in
    ap (λ xs. call (name_shape callee) xs span) (row-shapes row.0 row.1 ∙ ap shapes (items_hidden-the_row-Expr-0 args.now))

pub call_at : (e : Expr) (callee : Name) (args : Bor (List Expr)) → e.kind ≡ Call callee args
    → shape e ≡ call (name_shape callee) (shapes args.now) e.span
call_at e callee args is = ap (λ k. kind_shape k e.span) is ∙ shape-call callee args e.span
