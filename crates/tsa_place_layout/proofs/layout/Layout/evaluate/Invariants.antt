use Rattle.std.proofs.Common.{◌≡◌, drop, slice_get}
use Rattle.tsa_place_model.specs.Calls.{take_root, take_steps}
use Rattle.tsa_place_layout.proofs.layout.Layout.evaluate.Given as goal

abbrev pub invariant-each : goal.invariant-each
invariant-each l = record {
  led : take_steps l.self (slice_get l.locals) (drop l.step-index l.path.steps) l.spot ≡ take_steps l.fn.self (slice_get l.locals) l.fn.path.steps (take_root l.fn.self (slice_get l.locals) l.fn.owner l.fn.path.root);
}
