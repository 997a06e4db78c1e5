use Rattle.tsa_warn_function.proofs.Telling.{one_is_first, not_both_are_first, preceding_is_transitive}
use Rattle.tsa_warn_function.proofs.laws.failures_are_told_in_one_order.Goals as goal

pub returns-clause-one : goal.returns-clause-one
returns-clause-one c = one_is_first

pub returns-clause-not_both : goal.returns-clause-not_both
returns-clause-not_both c = not_both_are_first

pub returns-clause-transitive : goal.returns-clause-transitive
returns-clause-transitive c = preceding_is_transitive
