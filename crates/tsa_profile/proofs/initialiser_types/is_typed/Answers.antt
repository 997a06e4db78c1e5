use Rattle.tsa_tree.specs.expressions.Shapes.{shape}
use Rattle.tsa_profile.proofs.Cells.{typed}
use Rattle.tsa_profile.proofs.initialiser_types.is_typed.Goals as goal

pub returns : goal.returns
returns c =
    typed c.args.scope.now c.args.thing (shape c.args.expr.now) c.in_ok-failure.failure c.is_none.result c.in_ok-failure.ensures.judged c.is_none.ensures
