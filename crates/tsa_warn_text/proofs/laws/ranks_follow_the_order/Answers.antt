use Rattle.tsa_warn_text.proofs.Telling.{ranks_follow_the_order}
use Rattle.tsa_warn_text.proofs.laws.ranks_follow_the_order.Goals as goal

pub returns : goal.returns
returns c = ranks_follow_the_order
