use Rattle.std.proofs.Common.{◌∙◌, subst}
use Rattle.tsa_place.proofs.Putting.{on_both}
use Rattle.tsa_rules_table.specs.Notes.{NotesLeft, NotesRight}
use Rattle.tsa_rules_points.specs.Marking.{NotesBegun}
use Rattle.tsa_rules_points.specs.Points.{begun_here, uses_here}
use Rattle.tsa_rules_points.specs.Visits.{around_at, known_at}
use Rattle.tsa_rules_points.proofs.RowSteps.{row_added}
use Rattle.tsa_rules_points.proofs.marking.Marking.note.Goals as goal

pub returns-clause-row : goal.returns-clause-row
returns-clause-row c =
    let a = around_at c.args.visit in
    let k = known_at c.args.visit in
    let paths = c.args.self.now.numbers in
    let m = c.begin_row.new.self in
    let one = c.note_call.new.self.marks in
    let two = c.note_value.new.self.marks in
    let three = c.note_left.new.self.marks in
    let end = c.note_begun.new.self.marks in
    let n1 = c.in_ok-note_call.ensures.numbers in
    let n2 = c.in_ok-note_value.ensures.numbers ∙ n1 in
    let n3 = c.in_ok-note_left.ensures.numbers ∙ n2 in
    on_both c.note_begun.result c.note_begun.ensures.row c.note_begun.ensures.kept
    (λ starts kept.
    row_added a paths k c.args.self.now.marks m one two three end c.begin_row.ensures.begun c.begin_row.ensures.nothing c.begin_row.ensures.kept
    c.in_ok-note_call.ensures.row c.in_ok-note_call.ensures.kept
    (subst (λ ps. NotesRight ps one two (uses_here a k).right) n1 c.in_ok-note_value.ensures.row) c.in_ok-note_value.ensures.kept
    (subst (λ ps. NotesLeft ps two three (uses_here a k).left) n2 c.in_ok-note_left.ensures.row) c.in_ok-note_left.ensures.kept
    (subst (λ ps. NotesBegun ps three end (begun_here k)) n3 starts) kept)
