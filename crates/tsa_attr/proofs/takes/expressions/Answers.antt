use Rattle.tsa_attr.proofs.Contents.{list_gives}
use Rattle.tsa_attr.proofs.takes.expressions.Goals as goal

pub returns-clause-gives : goal.returns-clause-gives
returns-clause-gives c =
    list_gives _ _ _ _ _ _ _ _ c.in_ok-args.ensures.gives c.of_expressions.ensures.is c.of_expressions.ensures.ends c.of_expressions.ensures.memory
