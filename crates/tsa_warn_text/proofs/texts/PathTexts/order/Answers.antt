use Rattle.std.proofs.Common.{◌∙◌}
use Rattle.tsa_warn_text.proofs.Ranking.{ranks_along}
use Rattle.tsa_warn_text.proofs.Telling.{order_tells}
use Rattle.tsa_warn_text.proofs.texts.PathTexts.order.Goals as goal

pub returns-clause-ranks : goal.returns-clause-ranks
returns-clause-ranks c = rw (c.deref.ensures.value, ← c.self.view_is) (ranks_along _ _ c.self.invariant.0.each c.self.invariant.0.told)

pub returns-clause-ordered : goal.returns-clause-ordered
returns-clause-ordered c names paths same =
    rw c.deref.ensures.value (order_tells c.self.inside.texts.items c.self.inside.order.items c.self.invariant.0.told names paths (c.self.view_is ∙ same))
