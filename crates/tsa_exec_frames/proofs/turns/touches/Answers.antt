use Rattle.std.proofs.Common.{◌∙◌, ap, sym}
use Rattle.tsa_exec_frames.proofs.TouchedCells.{halt_touched, touch_told}
use Rattle.tsa_exec_frames.proofs.turns.touches.Goals as goal

pub returns-in-Read-clause-touches : goal.returns-in-Read-clause-touches
returns-in-Read-clause-touches c = λ u top layout stands.
    let told = touch_told u c.args.unit.now.code.now c.args.frame.now.at c.run-halted.result c.args.unit.now.places.now c.args.frame.now.locals.items c.deref.result.now c.args.slots.now c.run-halted.new.slots top
    c.deref.ensures.value layout stands c.run-halted.ensures.halts in
    (sym (ap (λ h. halt_touched h c.run-halted.new.slots) c.in-Read.is) ∙ told.0, told.1)

pub returns-in-Stop-clause-touches : goal.returns-in-Stop-clause-touches
returns-in-Stop-clause-touches c = λ u top layout stands.
    let told = touch_told u c.args.unit.now.code.now c.args.frame.now.at c.run-halted.result c.args.unit.now.places.now c.args.frame.now.locals.items c.deref.result.now c.args.slots.now c.run-halted.new.slots top
    c.deref.ensures.value layout stands c.run-halted.ensures.halts in
    (sym (ap (λ h. halt_touched h c.run-halted.new.slots) c.in-Stop.is) ∙ told.0, told.1)

pub returns-in-End-clause-touches : goal.returns-in-End-clause-touches
returns-in-End-clause-touches c = λ u top layout stands.
    let told = touch_told u c.args.unit.now.code.now c.args.frame.now.at c.run-halted.result c.args.unit.now.places.now c.args.frame.now.locals.items c.deref.result.now c.args.slots.now c.run-halted.new.slots top
    c.deref.ensures.value layout stands c.run-halted.ensures.halts in
    (c.written.ensures ∙ (sym (ap (λ h. halt_touched h c.run-halted.new.slots) c.in-End.is) ∙ told.0), told.1)
