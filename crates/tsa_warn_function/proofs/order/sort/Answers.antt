use Rattle.std.proofs.Common.{rules, is_lt}
use Rattle.std.proofs.lemmas.Fn.{always_returns_same}
use Rattle.std.proofs.lemmas.List.Sorted.{ranks_by}
use Rattle.tsa_warn_function.specs.Comparisons.{failure_cmp}
use Rattle.tsa_warn_function.proofs.Comparing.{failure_cmp_total}
use Rattle.tsa_warn_function.proofs.order.sort.Goals as goal

pub returns-clause-ordered : goal.returns-clause-ordered
returns-clause-ordered c =
    c.sort_unstable_by.ensures.sorted (λ v w. is_lt (failure_cmp c.args.texts.now v w)) (ranks_by (failure_cmp_total c.args.texts.now) (λ v. v))
    (always_returns_same _ _ _ (λ a r f k. search rules))
