use Rattle.std.proofs.Common.{ap}
use Rattle.tsa_tree.specs.expressions.Shapes.{shape}
use Rattle.tsa_unit_simple.proofs.ConditionLaws.{test_goes}
use Rattle.tsa_unit_simple.proofs.conditions.test.Goals as goal

pub returns-clause-gives : goal.returns-clause-gives
returns-clause-gives c =
    test_goes _ _ _ _ _ _ _ _ _ c.in_ok-inside.ensures.gives c.in_ok-inner.ensures.gives c.in_ok-next.ensures.gives (ap shape c.in_ok-tree.ensures.is)
