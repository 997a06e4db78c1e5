use Rattle.std.proofs.Common.{◌∙◌, set, drop, refl, ap, length-set}
use Rattle.tsa_lower_code.specs.Codes.{going}
use Rattle.tsa_exec_frames.specs.Answering.{value_to_set, way_to_go}
use Rattle.tsa_exec_frames.proofs.AnsweredCalls.{answers, answer_pass, answer_set, answer_test, answer_resume}
use Rattle.tsa_exec_frames.proofs.answers.answer.Goals as goal

pub returns-in-Pass-clause-stands : goal.returns-in-Pass-clause-stands
returns-in-Pass-clause-stands c = λ u top layout stands pauses.
    let code = c.args.unit.now.code.now in
    let frame = c.args.frame.now in
    let slots = c.args.slots.now in
    let after = set slots 0 c.args.value in
    rw (c.beginning-frame.ensures.is)
    (answer_pass u code top frame.at c.args.unit.now.places.now frame.locals.items c.point-here.result slots after c.args.value
    (answers u code top frame.at c.args.unit.now.places.now frame.locals.items c.point-here.result slots after stands c.requires.inside layout pauses c.point-here.ensures.is c.requires.slots
    (length-set slots 0 c.args.value ∙ c.requires.slots))
    c.in-Pass.is)

pub returns-in-Set-clause-stands : goal.returns-in-Set-clause-stands
returns-in-Set-clause-stands c = λ u top layout stands pauses.
    let code = c.args.unit.now.code.now in
    let frame = c.args.frame.now in
    let slots = c.args.slots.now in
    let after = c.value_by-set.new.slots in
    rw (c.beginning-frame-in-Set.ensures.is, c.set_local.ensures)
    (answer_set u code top frame.at c.args.unit.now.places.now frame.locals.items c.point-here.result slots after c.args.value
    (answers u code top frame.at c.args.unit.now.places.now frame.locals.items c.point-here.result slots after stands c.requires.inside layout pauses c.point-here.ensures.is c.requires.slots
    (c.value_by-set.ensures.long ∙ (length-set slots 0 c.args.value ∙ c.requires.slots)))
    c.in-Set.number c.value_by-set.result c.in-Set.is
    (c.value_by-set.ensures.value ∙ ap (λ ls. value_to_set (going c.args.unit.now.places.now ls 0 (drop c.point-here.result.behind_call code.instrs.items) (set slots 0 c.args.value))) c.deref.ensures.value))

pub returns-in-Test-clause-stands : goal.returns-in-Test-clause-stands
returns-in-Test-clause-stands c = λ u top layout stands pauses.
    let code = c.args.unit.now.code.now in
    let frame = c.args.frame.now in
    let slots = c.args.slots.now in
    let after = c.way_by-way.new.slots in
    rw (c.beginning-frame-in-Test.ensures.is)
    (answer_test u code top frame.at c.args.unit.now.places.now frame.locals.items c.point-here.result slots after c.args.value
    (answers u code top frame.at c.args.unit.now.places.now frame.locals.items c.point-here.result slots after stands c.requires.inside layout pauses c.point-here.ensures.is c.requires.slots
    (c.way_by-way.ensures.long ∙ (length-set slots 0 c.args.value ∙ c.requires.slots)))
    c.way_by-way.result c.either.result c.in-Test.is
    (c.way_by-way.ensures.way ∙ ap (λ ls. way_to_go (going c.args.unit.now.places.now ls 0 (drop c.point-here.result.behind_call code.instrs.items) (set slots 0 c.args.value))) c.deref-in-Test.ensures.value)
    c.either.ensures)

pub returns-in-Resume-clause-stands : goal.returns-in-Resume-clause-stands
returns-in-Resume-clause-stands c = λ u top layout stands pauses.
    let code = c.args.unit.now.code.now in
    let frame = c.args.frame.now in
    let slots = c.args.slots.now in
    let after = set slots 0 c.args.value in
    answer_resume u code top frame.at c.args.unit.now.places.now frame.locals.items c.point-here.result slots after c.args.value
    (answers u code top frame.at c.args.unit.now.places.now frame.locals.items c.point-here.result slots after stands c.requires.inside layout pauses c.point-here.ensures.is c.requires.slots
    (length-set slots 0 c.args.value ∙ c.requires.slots))
    c.in-Resume.is refl
