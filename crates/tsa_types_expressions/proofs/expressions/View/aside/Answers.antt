use Rattle.std.proofs.Common.{◌∙◌, ap, sym}
use Rattle.std.proofs.lemmas.Result.{on_ok_weaker}
use Rattle.tsa_tree.specs.expressions.Shapes.{shape}
use Rattle.tsa_types_row.specs.BodyRows.{marked_row}
use Rattle.tsa_types_row.specs.declared.node.Op.TheVariants as op
use Rattle.tsa_types_expressions.proofs.LengthLaws.{shape_span}
use Rattle.tsa_types_expressions.proofs.RowLaws.{noted}
use Rattle.tsa_types_expressions.proofs.expressions.View.aside.Goals as goal

pub returns-clause-nodes : goal.returns-clause-nodes
returns-clause-nodes c =
    let here = c.args.self.scope.now in
    let f = c.args.self.function in
    let e = shape c.args.expr.now in
    on_ok_weaker c.marked.result
    (λ is. is ∙ ap (λ m. noted c.args.row.now (marked_row m.op m.span here f e)) c.new.ensures
    ∙ sym (ap (λ s. noted c.args.row.now (marked_row op.Aside s here f e)) (shape_span c.args.expr.now)))
    c.marked.ensures.nodes
