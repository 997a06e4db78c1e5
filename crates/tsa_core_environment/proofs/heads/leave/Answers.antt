use Rattle.std.proofs.Common.{◌∙◌}
use Rattle.tsa_core_environment.proofs.KnownHeads.{left_behind}
use Rattle.tsa_core_environment.proofs.heads.leave.Goals as goal

pub returns-clause-behind : goal.returns-clause-behind
returns-clause-behind c = λ here head with_body is same. c.leave.ensures ∙ left_behind here head with_body c.args.scope.now c.args.outside is same
