use Rattle.std.proofs.Common.{inl, inr}
use Rattle.tsa_rules.proofs.statuses.Statuses.only.Goals as goal

pub returns : goal.returns
returns c = λ t. (λ has. elim ((c.with.ensures t).0 has) [ inl none ↦ absurd (c.none.ensures t none) | inr e ↦ e ], λ e. (c.with.ensures t).1 (inr e))
