use Rattle.std.proofs.Common.{◌∙◌, ◌∷◌, [], ◌++◌, map, ap}
use Rattle.tsa_tree.specs.points.Syntax.{ends}
use Rattle.tsa_tree.specs.statements.Shapes.{stmt_shapes}
use Rattle.tsa_core_points.specs.Steps.{does, nested, step_shape, steps_of_all}
use Rattle.tsa_core_points.proofs.steps.body_steps.Goals as goal

-- the end comes behind the block of the body, which comes first
pub returns : goal.returns
returns c =
    c.in_ok-put_point.ensures
    ∙ ap (λ xs. xs ++ does ends c.args.close ∷ [])
    (c.in_ok-put_block.ensures ∙ ap (λ xs. map step_shape xs ++ nested (steps_of_all (stmt_shapes c.args.body.now))) c.in_ok-steps.ensures.items)
