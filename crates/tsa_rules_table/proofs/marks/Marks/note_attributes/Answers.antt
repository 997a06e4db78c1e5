use Rattle.std.proofs.Common.{◌∙◌, ◌+◌, drop, refl, ap}
use Rattle.std.proofs.lemmas.List.{drop_all}
use Rattle.tsa_rules.specs.Attributes.{all_as_called, as_called}
use Rattle.tsa_rules_table.specs.Saying.{named_by, noted_attribute}
use Rattle.tsa_rules_table.proofs.Saying.{all_said, first_said, kept_on, next_is}
use Rattle.tsa_rules_table.proofs.Steps.{attributes_noted}
use Rattle.tsa_rules_table.proofs.marks.Marks.note_attributes.Goals as goal

pub each-preserved : goal.each-preserved
each-preserved c =
    let paths = c.args.numbers.now in
    let locks = c.args.locks.now in
    let called = all_as_called c.args.ways.now in
    let i = c.each.lock-index in
    let x = c.lock-item.result in
    let cons = next_is locks i x c.each-test.true c.lock-item.is in
    record {
      row =
          first_said named_by noted_attribute paths (named_by (called locks)) c.args.self.now c.each.numbers (called (drop i locks)) (called (drop (i + 1) locks)) (as_called c.args.ways.now x)
          c.each.self c.note_called.new.self refl (ap called cons) c.each.invariant.numbers c.each.invariant.row c.in_ok-note_called.ensures.row;
      kept = kept_on c.args.self.now c.each.self c.note_called.new.self c.each.invariant.kept c.in_ok-note_called.ensures.kept;
      numbers = c.in_ok-note_called.ensures.numbers ∙ c.each.invariant.numbers;
    }

pub returns-clause-row : goal.returns-clause-row
returns-clause-row c =
    let paths = c.args.numbers.now in
    let locks = c.args.locks.now in
    let called = all_as_called c.args.ways.now in
    let i = c.each.lock-index in
    attributes_noted paths (called locks) c.args.self.now c.each.self
    (all_said named_by noted_attribute paths (named_by (called locks)) c.args.self.now (called (drop i locks)) c.each.self refl (ap called (drop_all i locks c.each-test.false)) c.each.invariant.row)
