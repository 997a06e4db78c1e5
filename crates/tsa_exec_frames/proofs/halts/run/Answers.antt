use Rattle.std.proofs.Common.{◌∙◌, drop, ◌+◌, rules}
use Rattle.tsa_exec_frames.proofs.SkippedInstrs.{next_goes, skip_goes, halt_goes}
use Rattle.tsa_exec_frames.proofs.halts.run.Goals as goal

pub instrs-preserved-in-Next : goal.instrs-preserved-in-Next
instrs-preserved-in-Next c = record {
  same = next_goes c.args.unit.now.places.now c.args.locals.now c.args.unit.now.code.now.instrs.items c.instrs.at c.instr.result c.instrs.slots c.execute.new.slots
      (search rules) c.instr.ensures.is (c.in-Next.ensures.goes (drop (c.instrs.at + 1) c.args.unit.now.code.now.instrs.items)) ∙ c.instrs.invariant.same;
  long = search rules;
  near = search rules;
}

pub instrs-preserved : goal.instrs-preserved
instrs-preserved c = record {
  same = skip_goes c.args.unit.now.places.now c.args.locals.now c.args.unit.now.code.now.instrs.items c.instrs.at c.instr.result c.instrs.slots c.execute.new.slots
      (search rules) c.instr.ensures.is c.in-Skip.by (c.in-Skip.ensures.goes (drop (c.instrs.at + 1) c.args.unit.now.code.now.instrs.items)) ∙ c.instrs.invariant.same;
  long = search rules;
  near = search rules;
}

pub returns-in-Halt-clause-halts : goal.returns-in-Halt-clause-halts
returns-in-Halt-clause-halts c =
    halt_goes c.args.unit.now.places.now c.args.locals.now c.args.unit.now.code.now.instrs.items c.instrs.at c.instr.result c.instrs.slots c.execute.new.slots
    (search rules) c.instr.ensures.is c.in-Halt.halt c.args.from c.args.slots.now (c.in-Halt.ensures.goes (drop (c.instrs.at + 1) c.args.unit.now.code.now.instrs.items))
    c.in-Halt.ensures.keeps c.in-Halt.ensures.fits c.instrs.invariant.same
