use Rattle.tsa_warn_text.proofs.Ranking.{kept_rank}
use Rattle.tsa_warn_text.proofs.texts.PathTexts.rank.Goals as goal

pub returns : goal.returns
returns c = rw (c.rank_at.ensures, c.deref.ensures.value, ← c.self.view_is) (kept_rank c.self.inside.texts.items c.self.inside.ranks.items c.args.number c.self.invariant.1)
