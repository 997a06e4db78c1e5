use Rattle.std.proofs.Common.{◌∙◌, [], is_none, ap}
use Rattle.tsa_tree.specs.expressions.Shapes.{shape}
use Rattle.tsa_profile.proofs.Attributes.{none_by, none_differs}
use Rattle.tsa_profile.proofs.unit_end.Ending.is_in_profile.Goals as goal

pub returns : goal.returns
returns c = λ attributes.
    none_by c.in_ok-failure.failure c.is_none.result c.is_none.ensures
    ∙ ap is_none c.in_ok-failure.ensures
    ∙ none_differs c.args.self.layout.now c.args.self.scope.now [] attributes (shape c.args.expr.now)
