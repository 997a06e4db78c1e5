use Rattle.std.proofs.Common.{arith}
use Rattle.tsa_warn_text.proofs.Placing.{placed_more}
use Rattle.tsa_warn_text.proofs.ranks.ranks_of.Goals as goal

pub each-preserved : goal.each-preserved
each-preserved c = rw c.put.ensures (placed_more c.args.order.now c.each.ranks.items c.each.rank (omega arith) c.each.invariant)
