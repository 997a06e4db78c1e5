use Rattle.tsa_attr.proofs.Contents.{one_goes}
use Rattle.tsa_attr.proofs.takes.expression.Goals as goal

pub returns-clause-gives : goal.returns-clause-gives
returns-clause-gives c =
    one_goes _ _ _ _ _ _ _ _ _ _ c.over.result c.in_ok-inner.ensures.gives c.in_ok-next.ensures.gives c.in_ok-next.ensures.ends.0 c.of_args-attr.ensures c.in_ok-args.ensures.is c.over.ensures
