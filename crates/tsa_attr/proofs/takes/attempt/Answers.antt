use Rattle.std.proofs.Common.{sym}
use Rattle.tsa_attr.proofs.Contents.{try_goes}
use Rattle.tsa_attr.proofs.takes.attempt.Goals as goal

pub returns-clause-gives : goal.returns-clause-gives
returns-clause-gives c =
    try_goes _ _ _ _ _ c.in-Some.success _ _ _ _ (sym c.in-Some.ensures) (sym c.in-Comma.ensures.is) c.in_ok-args.ensures.gives c.of_list.ensures.is c.of_list.ensures.ends
