use Rattle.std.proofs.Common.{◌∙◌}
use Rattle.tsa_rules_view.proofs.Structs.{step_next}
use Rattle.tsa_rules_view.proofs.structure.Leads.structure.Goals as goal

pub each-preserved : goal.each-preserved
each-preserved c =
    record {
      led = step_next c.args.self.layout.now c.args.path.now.steps c.steps-step-items.result.now c.each.step-index c.steps-step-items.ensures
          _ c.each.structure c.behind-structure.result c.each-test.true c.behind-structure.ensures
          ∙ c.each.invariant.led;
    }
