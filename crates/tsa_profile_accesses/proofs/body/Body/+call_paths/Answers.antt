use Rattle.tsa_place_model.specs.LockPaths.{stable_in}
use Rattle.tsa_profile_accesses.proofs.Paths.{call_inside}
use Rattle.tsa_profile_accesses.proofs.body.Body.+call_paths.Goals as goal

pub returns-in-Call : goal.returns-in-Call
returns-in-Call t c =
    let stable = stable_in c.args.self.sight.stable.now in
    rw (call_inside stable c.args.self.sight.scope.now c.args.expr.now c.in-Call.callee c.in-Call.args c.known.result c.in-Call.is c.known.ensures) c.called_paths.ensures
