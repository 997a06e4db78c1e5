use Rattle.std.proofs.Common.{rules, ◌≢◌, subst}
use Rattle.tsa_tree.specs.declared.sign.Sign.TheVariants as sign
use Rattle.tsa_unit_simple.proofs.PartLaws.{step_goes, step_pointed}
use Rattle.tsa_unit_simple.proofs.parts.for_step.Goals as goal

pub returns : goal.returns
returns c = record {
  gives =
      step_goes _ _ _ _ c.in_ok-whole.whole.stmt.now _ _ (subst (λ s. s ≢ sign.Close) c.sign-sign.ensures.is c.in_default.not-Close) c.in_ok-whole.ensures.gives
      c.in_ok-next.ensures.gives;
  pointed = step_pointed _ _ _ _ _ _ c.in_ok-whole.whole.stmt _ c.in_ok-whole.ensures.gives c.in_ok-whole.ensures.pointed;
  ends = search rules;
}
