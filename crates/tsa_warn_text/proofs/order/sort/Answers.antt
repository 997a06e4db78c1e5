use Rattle.std.proofs.Common.{rules, is_lt}
use Rattle.std.proofs.lemmas.Fn.{always_returns_same}
use Rattle.std.proofs.lemmas.List.Sorted.{ranks_by}
use Rattle.tsa_warn_text.specs.Ranks.{told_cmp}
use Rattle.tsa_warn_text.proofs.Comparing.{told_cmp_total}
use Rattle.tsa_warn_text.proofs.order.sort.Goals as goal

pub returns-clause-ordered : goal.returns-clause-ordered
returns-clause-ordered c =
    c.sort_unstable_by.ensures.sorted (λ a b. is_lt (told_cmp c.args.texts.now a b)) (ranks_by (told_cmp_total c.args.texts.now) (λ a. a))
    (always_returns_same _ _ _ (λ a r f k. search rules))
