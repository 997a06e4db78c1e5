use Rattle.std.proofs.Common.{◌∙◌, ◌∷◌, [], ◌++◌, ap, sym}
use Rattle.tsa_tree.specs.expressions.Shapes.{shape}
use Rattle.tsa_types_row.specs.ExpressionRows.{row_in}
use Rattle.tsa_types_row.specs.Rows.{framed, hole}
use Rattle.tsa_types_expressions.proofs.RowLaws.{closed_is, noted, noted_append}
use Rattle.tsa_types_simple.proofs.leaves.assignment.Goals as goal

pub returns-clause-nodes : goal.returns-clause-nodes
returns-clause-nodes c =
    let left = row_in c.args.view.scope.now c.args.view.function (shape c.args.sides.left.now) in
    let right = row_in c.args.view.scope.now c.args.view.function (shape c.args.sides.right.now) in
    let notes = c.args.row.now in
    c.in_ok-close.ensures.put
    ∙ closed_is notes c.in_ok-place.place c.bare_node.result (left ++ right) c.expression-2.new.row c.in_ok-place.ensures.number
    (c.in_ok-right.ensures.nodes
    ∙ ap (λ r. noted r right) c.in_ok-left.ensures.nodes
    ∙ ap (λ r. noted (noted r left) right) c.in_ok-place.ensures.put
    ∙ sym (noted_append (noted notes (hole ∷ [])) left right))
    ∙ ap (λ n. noted notes (framed n (left ++ right))) c.bare_node.ensures
