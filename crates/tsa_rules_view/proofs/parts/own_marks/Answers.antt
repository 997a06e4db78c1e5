use Rattle.std.proofs.Common.{ap}
use Rattle.tsa_rules_view.proofs.OwnRow.{row_first}
use Rattle.tsa_rules_view.proofs.parts.own_marks.Goals as goal

pub returns-clause-row : goal.returns-clause-row
returns-clause-row c =
    row_first c.args.numbers.now c.new-marks.result c.begin_row.new.self c.note_own.new.self c.args.own.now (ap (λ m. m.count) c.new-marks.ensures) c.begin_row.ensures.begun
    (c.begin_row.ensures.row c.args.numbers.now) c.in_ok-note_own.ensures.kept c.in_ok-note_own.ensures.row
