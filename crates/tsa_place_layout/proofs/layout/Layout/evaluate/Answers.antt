use Rattle.std.proofs.Common.{◌∙◌, slice_get}
use Rattle.tsa_place_layout.proofs.Evaluating.{step_next}
use Rattle.tsa_place_layout.proofs.layout.Layout.evaluate.Goals as goal

pub each-preserved : goal.each-preserved
each-preserved c =
    record {
      led = step_next c.args.self.now (slice_get c.args.locals.now) c.args.path.now.steps c.steps-step-items.result.now c.each.step-index c.steps-step-items.ensures
          _ c.each.spot c.onward-spot.result c.each-test.true c.onward-spot.ensures
          ∙ c.each.invariant.led;
    }
