use Rattle.std.proofs.Common.{subst}
use Rattle.std.specs.List.Sorted.{IsSorted}
use Rattle.tsa_warn_function.specs.Comparisons.{failure_cmp}
use Rattle.tsa_warn_function.proofs.Sorting.{sorted_are_told}
use Rattle.tsa_warn_function.proofs.order.warnings_of.Goals as goal

pub returns : goal.returns
returns c u f paths names is same =
    sorted_are_told names u f paths c.in_ok-found.found.items c.sort.new.found.items (c.in_ok-found.ensures u f paths is) c.sort.ensures.kept
    (subst (λ texts. IsSorted (failure_cmp texts) c.sort.new.found.items) same c.sort.ensures.ordered)
