use Rattle.std.proofs.Common.{◌≡◌, ◌∙◌, ◌<◌, ap, arith, length}
use Rattle.std.proofs.lemmas.Result.{on_ok_weaker}
use Rattle.tsa_rules_table.specs.Rows.{rows_in}
use Rattle.tsa_rules.specs.Points.{points_of}
use Rattle.tsa_flow_function.specs.RuleView.{RuleView}
use Rattle.tsa_warn_function.proofs.Notes.{of_mark, of_none, some_there}
use Rattle.tsa_warn_function.proofs.marks.note_mark.Goals as goal
use Rattle.tsa_warn_function.proofs.marks.note_mark.Goals.{else-entry-rows-via-then-entry-rows+else-entry-caps}
use Rattle.tsa_warn_function.proofs.marks.note_mark.Goals.{else-entry-rows-via-else-entry-rows}

pub returns-then-entry-caps : goal.returns-then-entry-caps
returns-then-entry-caps c = on_ok_weaker c.note_rules.result
    (λ h u f paths is.
    let points : c.rows.result ≡ length (points_of f) = c.rows.ensures ∙ (ap rows_in c.marks.ensures ∙ (ap (λ (v : RuleView). rows_in v.notes.marks) c.view.ensures ∙ is.view.rows)) in
    let caps : c.caps.result ≡ length paths = c.caps.ensures ∙ (ap (λ (v : RuleView). length v.numbers) c.view-then-entry-rows.ensures ∙ ap length is.view.numbered) in
    let within : c.args.entry.row < length (points_of f) = omega (arith, c.if-entry-rows.true, points) in
    let there = some_there paths c.args.entry.number (omega (arith, c.if-entry-caps.true, caps)) in
    of_mark u f paths c.args.entry.row c.args.entry.number within there.0 there.1 c.spot_of.result c.spot_of.ensures.point c.spot_of.ensures.cap c.args.found.now.items c.note_rules.new.found.items
    (h u f there.0 (c.spot_of.ensures.is u f paths there.0 is within there.1)))
    c.note_rules.ensures

pub returns-else-entry-rows : goal.returns-else-entry-rows
returns-else-entry-rows c u f paths is =
    let points : c.rows.result ≡ length (points_of f) = c.rows.ensures ∙ (ap rows_in c.marks.ensures ∙ (ap (λ (v : RuleView). rows_in v.notes.marks) c.view.ensures ∙ is.view.rows)) in
    of_none u f paths c.args.entry.row c.args.entry.number (λ within number. elim c.else-entry-rows.branch [
      | else-entry-rows-via-then-entry-rows+else-entry-caps w ↦ (
          let caps : w.caps.result ≡ length paths = w.caps.ensures ∙ (ap (λ (v : RuleView). length v.numbers) w.view-then-entry-rows.ensures ∙ ap length is.view.numbered) in
          omega (arith, w.if-entry-caps.false, caps, number))
      | else-entry-rows-via-else-entry-rows w ↦ omega (arith, w.if-entry-rows.false, points, within)
    ]) c.args.found.now.items
