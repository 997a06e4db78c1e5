use Rattle.std.proofs.Common.{arith}
use Rattle.tsa_exec_frames.proofs.FrameTurns.{read_told, stop_told, end_told}
use Rattle.tsa_exec_frames.proofs.turns.turn.Goals as goal

pub returns-in-Read-clause-answers : goal.returns-in-Read-clause-answers
returns-in-Read-clause-answers c = λ u s t z top below layout stands store here. rw (c.in-Read.ensures.locals)
    (read_told u c.args.unit.now.code.now s t z top below stands c.args.frame.now.at c.advance.new.frame.at c.args.slots.now c.advance.new.slots c.in-Read.ensures.point
    c.in-Read.place c.in-Read.value c.args.unit.now.places.now c.args.frame.now.locals.items c.args.store.now layout here.locals_are store
    c.in-Read.ensures.arrives.0 c.in-Read.ensures.arrives.1 here)

pub returns-in-Stop-clause-answers : goal.returns-in-Stop-clause-answers
returns-in-Stop-clause-answers c = λ u s t z top below layout stands store here.
    stop_told u c.args.unit.now.code.now s t z top below stands c.args.frame.now.at c.advance.new.frame.at c.args.slots.now c.advance.new.slots c.in-Stop.ensures.point
    c.in-Stop.kind c.args.unit.now.places.now c.args.frame.now.locals.items c.args.store.now layout here.locals_are store c.in-Stop.ensures.arrives here

pub returns-in-End-clause-answers : goal.returns-in-End-clause-answers
returns-in-End-clause-answers c = λ u s t z top below layout stands store here.
    rw (c.finish.ensures.turn, c.finish.ensures.at, c.finish.ensures.locals, c.finish.ensures.store, c.in-End.ensures.locals)
    (end_told u c.args.unit.now.code.now s t z top below stands c.args.frame.now.at c.advance.new.frame.at c.args.slots.now c.advance.new.slots c.in-End.ensures.point
    c.in-End.ending c.deed_at.result c.args.unit.now.places.now c.args.frame.now.locals.items c.args.store.now c.in-End.ensures.inside.point
    (omega (arith, c.in-End.ensures.long, c.requires.slots)) c.deed_at.ensures.does layout here.locals_are store
    c.in-End.ensures.arrives.0 c.in-End.ensures.arrives.1 here)
