use Rattle.tsa_unit_simple.proofs.LeafLaws.{closed_answers}
use Rattle.tsa_unit_simple.proofs.leaves.closed_statement.Goals as goal

pub alone-requires : goal.alone-requires
alone-requires c = record { single = c.requires.single _ }

pub returns-clause-gives : goal.returns-clause-gives
returns-clause-gives c =
    closed_answers _ _ _ _ _ _ _ _ c.in_ok-next.ensures.gives c.over-span.ensures c.alone.ensures.is c.alone.ensures.memory
