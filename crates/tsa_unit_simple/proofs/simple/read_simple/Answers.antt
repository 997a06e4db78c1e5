use Rattle.std.proofs.Common.{◌∙◌, ap, sym}
use Rattle.tsa_unit_simple.specs.Outcomes.{step_in}
use Rattle.tsa_unit_simple.proofs.SimpleLaws.{stepped_goes}
use Rattle.tsa_unit_simple.proofs.simple.read_simple.Goals as goal

pub returns-in_ok-kind-in-Some-clause-gives : goal.returns-in_ok-kind-in-Some-clause-gives
returns-in_ok-kind-in-Some-clause-gives c =
    stepped_goes _ _ _ _ _ _ _ _ c.in_ok-kind-in-Some.kind c.spanned.result (ap step_in (sym c.requires.there) ∙ sym c.in-Some.ensures.is)
    c.in_ok-operand-in-Some.ensures.gives c.one-step.ensures c.in_ok-kind-in-Some.ensures.is c.spanned.ensures.is c.spanned.ensures.next_is
