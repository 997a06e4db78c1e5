use Rattle.std.proofs.Common.{◌<◌, ap, length, arith}
use Rattle.tsa_place_model.specs.declared.path.PathStep.TheVariants.{Field}
use Rattle.tsa_warn_text.proofs.LocalTexts.{locals_more}
use Rattle.tsa_warn_text.proofs.text.locals_of.Goals as goal

pub each-preserved : goal.each-preserved
each-preserved c =
    let within : c.each.step-index < length c.args.path.now.steps = omega (arith, ap length c.steps-steps.ensures) in
    locals_more c.args.path.now.root c.args.path.now.steps c.each.step-index (Field 0) _ _ within c.each.invariant (rw c.steps-steps.ensures at c.in_ok-push_local.ensures)
