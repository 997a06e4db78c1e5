use Rattle.std.proofs.Common.{ℕ, Ok, arith}
use Rattle.std.proofs.lemmas.Iterator.{YieldsList-from_range, items_from_collect}
use Rattle.tsa_warn_text.proofs.order.numbers_below.Goals as goal

pub returns : goal.returns
returns c = items_from_collect {E = ℕ} (Ok c.in_ok-collect.field-0) c.in_ok-collect.ensures.ran (YieldsList-from_range 0 c.args.count c.args.count (cc) (omega arith))
