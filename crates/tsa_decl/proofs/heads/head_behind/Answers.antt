use Rattle.tsa_decl.proofs.HeadLaws.{end_goes}
use Rattle.tsa_decl.proofs.heads.head_behind.Goals as goal

pub returns-clause-gives : goal.returns-clause-gives
returns-clause-gives c = end_goes _ _ _ _ _ _ _ _ c.in_ok-signature.ensures.gives c.function.ensures.is
