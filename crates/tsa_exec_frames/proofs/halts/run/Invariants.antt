use Rattle.std.proofs.Common.{◌≡◌, ◌≤◌, length, ◌+◌, ◌-◌, drop}
use Rattle.tsa_lower_code.specs.Codes.{going}
use Rattle.tsa_exec_frames.proofs.halts.run.Given as goal

abbrev pub invariant-instrs : goal.invariant-instrs
invariant-instrs l = record {
  same : going l.unit.places.now l.locals 0 (drop l.at l.unit.code.now.instrs.items) l.slots
      ≡ going l.unit.places.now l.locals 0 (drop l.from l.unit.code.now.instrs.items) l.initial.slots;
  long : length l.slots ≡ length l.initial.slots;
  near : l.at ≤ length l.unit.code.now.instrs.items + 4294967296;
}

abbrev pub decreases-instrs : goal.decreases-instrs
decreases-instrs l = length l.unit.code.now.instrs.items - l.at
