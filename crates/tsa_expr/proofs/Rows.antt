-- The arguments of a call, as a list.
use Rattle.std.proofs.Common.{◌≡◌, ◌∙◌, List, ap}
use Rattle.std.specs.Borrow.{Bor}
use Rattle.tsa_base.specs.declared.token.Span.{Span}
use Rattle.tsa_tree.specs.declared.expr.Name.{Name}
use Rattle.tsa_tree.specs.declared.expr.Expr.{Expr}
use Rattle.tsa_tree.specs.declared.expr.ExprKind.{Call, items_hidden-the_row-Expr-0}
use Rattle.tsa_tree.specs.expressions.Syntax.{call}
use Rattle.tsa_tree.specs.expressions.Shapes.{name_shape, kind_shape, shapes}
use Rattle.tsa_tree.proofs.expressions.Trees.{row-shapes, row_of}

pub shape-call : (callee : Name) (args : Bor (List Expr)) (span : Span) → kind_shape (Call callee args) span ≡ call (name_shape callee) (shapes args.now) span
shape-call callee args span =
    let row = row_of (Call callee args) in
    ap (λ xs. call (name_shape callee) xs span) (row-shapes row.0 row.1 ∙ ap shapes (items_hidden-the_row-Expr-0 args.now))
