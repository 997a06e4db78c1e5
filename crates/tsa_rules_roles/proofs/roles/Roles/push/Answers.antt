use Rattle.std.proofs.Common.{◌∙◌, ◌++◌, ◌∷◌, [], ap}
use Rattle.std.proofs.lemmas.Result.{on_ok_weaker}
use Rattle.tsa_rules_roles.proofs.RoleDuties.{grows}
use Rattle.tsa_rules_roles.proofs.roles.Roles.push.Goals as goal

pub returns-clause-grown : goal.returns-clause-grown
returns-clause-grown c =
    on_ok_weaker c.put.result
    (λ e. grows c.args.duty c.args.is_try c.args.self.now c.put.new.self (e ∙ ap (λ d. c.args.self.now ++ d ∷ []) c.duty_for.ensures)) c.put.ensures.put
