use Rattle.std.proofs.Common.{◌∙◌, ◌+◌, drop, map, refl, ap}
use Rattle.tsa_rules_table.specs.Notes.{core_access}
use Rattle.tsa_rules_table.specs.Saying.{guarding, noted_access}
use Rattle.tsa_rules_table.proofs.Saying.{first_said, kept_on, next_is}
use Rattle.tsa_rules_table.proofs.marks.Marks.note_accesses.Goals as goal

pub each-preserved : goal.each-preserved
each-preserved c =
    let paths = c.args.numbers.now in
    let found = c.args.found.now in
    let side = c.args.side in
    let core = map core_access in
    let i = c.each.access-index in
    let x = c.access-item.result in
    let cons = next_is found i x c.each-test.true c.access-item.is in
    record {
      row =
          first_said (guarding side) (noted_access side) paths (guarding side (core found)) c.args.self.now c.each.numbers (core (drop i found)) (core (drop (i + 1) found)) (core_access x)
          c.each.self c.note_access.new.self refl (ap core cons) c.each.invariant.numbers c.each.invariant.row c.in_ok-note_access.ensures.row;
      kept = kept_on c.args.self.now c.each.self c.note_access.new.self c.each.invariant.kept c.in_ok-note_access.ensures.kept;
      numbers = c.in_ok-note_access.ensures.numbers ∙ c.each.invariant.numbers;
    }
