-- Points stand where their expressions do; initialisers by reference.
use Rattle.std.proofs.Common.{◌≡◌, ℕ, ap}
use Rattle.tsa_tree.specs.declared.expr.Expr.{Expr}
use Rattle.tsa_tree.specs.expressions.Shapes.{shape}
use Rattle.tsa_tree.specs.points.Syntax.{expression_span}
use Rattle.tsa_tree.specs.types.Scopes.{Scope}
use Rattle.tsa_types_row.specs.BodyRows.{marked_row}
use Rattle.tsa_types_row.specs.declared.node.Op.{Op}
use Rattle.tsa_types_expressions.proofs.LengthLaws.{shape_span}
use Rattle.tsa_types_simple.proofs.LocalLaws.{seen_init}

pub point_is : (o : Op) (here : Scope) (f : ℕ) (e : Expr) → marked_row o (expression_span (shape e)) here f (shape e) ≡ marked_row o e.span here f (shape e)
point_is o here f e = ap (λ s. marked_row o s here f (shape e)) (shape_span e)

pub ruleset points = (point_is)

pub ruleset inits = (seen_init)
