use Rattle.std.proofs.Common.{◌∙◌, ap, sym}
use Rattle.tsa_tree.specs.tokens.Signs.{assigns}
use Rattle.tsa_unit_simple.specs.Outcomes.{step_in}
use Rattle.tsa_unit_simple.proofs.SimpleLaws.{step_behind, assigned_goes, rest_goes}
use Rattle.tsa_unit_simple.proofs.simple.behind_operand.Goals as goal

pub returns-in-Some-clause-gives : goal.returns-in-Some-clause-gives
returns-in-Some-clause-gives c =
    step_behind _ _ _ _ _ _ _ _ c.in_ok-kind.kind c.spanned.result c.requires.unstepped c.requires.begun
    (ap step_in (sym c.requires.ahead) ∙ sym c.in-Some.ensures.is) c.one-step.ensures c.in_ok-kind.ensures.is c.spanned.ensures.is c.spanned.ensures.next_is

pub returns-in-Some-assigns-clause-gives : goal.returns-in-Some-assigns-clause-gives
returns-in-Some-assigns-clause-gives c =
    assigned_goes _ _ _ _ _ _ _ _ _ c.in_ok-kind-2.kind c.spanned-in-Some-assigns.result c.requires.unstepped c.requires.begun
    (ap assigns (sym c.requires.ahead) ∙ sym c.in-Some-assigns.ensures.is) c.in_ok-right.ensures.gives c.in_ok-kind-2.ensures.is
    c.spanned-in-Some-assigns.ensures.is c.spanned-in-Some-assigns.ensures.next_is

pub returns-clause-gives : goal.returns-clause-gives
returns-clause-gives c =
    rest_goes _ _ _ _ _ _ _ _ c.in_ok-kind-3.kind c.spanned-2.result c.requires.unstepped c.requires.begun
    (ap step_in (sym c.requires.ahead) ∙ sym c.in_default.ensures.is) (ap assigns (sym c.requires.ahead) ∙ sym c.in_default-assigns.ensures.is)
    c.in_ok-whole.ensures.gives c.in_ok-kind-3.ensures.is c.spanned-2.ensures.is c.spanned-2.ensures.next_is
