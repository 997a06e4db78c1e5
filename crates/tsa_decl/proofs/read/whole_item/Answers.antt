use Rattle.std.proofs.Common.{false}
use Rattle.tsa_expr.proofs.Answering.{gives_same}
use Rattle.tsa_decl.proofs.read.whole_item.Goals as goal

pub returns-clause-gives : goal.returns-clause-gives
returns-clause-gives c = gives_same _ _ _ _ (c.in_ok-begun.ensures.leads false) c.finish.ensures.gives
