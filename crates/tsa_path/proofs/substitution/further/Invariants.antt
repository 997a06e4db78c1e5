use Rattle.std.proofs.Common.{◌≡◌, drop, Some}
use Rattle.tsa_path.specs.Substitution.{steps_in, further}
use Rattle.tsa_path.proofs.substitution.further.Given as goal

abbrev pub invariant-each : goal.invariant-each
invariant-each l = record {
  gone : further (Some l.path) (steps_in l.args (drop l.step-index l.steps)) ≡ further (Some l.fn.path) (steps_in l.fn.args l.fn.steps);
}
