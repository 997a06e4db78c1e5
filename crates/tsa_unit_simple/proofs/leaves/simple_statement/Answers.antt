use Rattle.tsa_unit_simple.proofs.LeafLaws.{simple_answers}
use Rattle.tsa_unit_simple.proofs.leaves.simple_statement.Goals as goal

pub returns-clause-gives : goal.returns-clause-gives
returns-clause-gives c =
    simple_answers _ _ _ _ _ _ _ _ c.in_ok-simple.ensures.gives c.in_ok-next.ensures.gives c.over-span.ensures c.simply.ensures.is
    c.simply.ensures.memory
