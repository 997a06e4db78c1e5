use Rattle.tsa_expr.proofs.Exact.{expression_found, expression_broken, expression_deep, broken_by, deep_by}
use Rattle.tsa_expr.proofs.read.read_expr.Goals as goal

pub returns-in-Ok-clause-found : goal.returns-in-Ok-clause-found
returns-in-Ok-clause-found c = expression_found _ _ _ _ _ _ c.in-Ok.ensures.gives

pub returns-in-Err-clause-broken : goal.returns-in-Err-clause-broken
returns-in-Err-clause-broken c = λ token h. expression_broken _ _ _ _ token (broken_by _ _ token c.in-Err.ensures.gives h)

pub returns-in-Err-clause-too_deep : goal.returns-in-Err-clause-too_deep
returns-in-Err-clause-too_deep c = λ token h. expression_deep _ _ _ _ token (deep_by _ _ token c.in-Err.ensures.gives h)
