use Rattle.std.proofs.Common.{◌∙◌, ℕ, ◌+◌, ◌≤◌, ap, arith, length, map, sym, subst, take}
use Rattle.std.proofs.lemmas.List.{length-map, take_all}
use Rattle.tsa_rules_table.specs.Rows.{entry_of, Rows}
use Rattle.tsa_flow_function.specs.RuleView.{RuleView}
use Rattle.tsa_warn_function.specs.Adding.{Adds}
use Rattle.tsa_warn_function.specs.Passes.{IsOfMarks}
use Rattle.tsa_warn_function.proofs.Notes.{fresh_place, mark_more, next_place, no_marks, none_there, some_there}
use Rattle.tsa_warn_function.proofs.marks.note_marks.Goals as goal
use Rattle.tsa_warn_function.proofs.marks.note_marks.Goals.{in-Some+in_ok-note_mark, in_default}

pub each-init : goal.each-init
each-init c u f paths is = no_marks u f paths c.args.found.now.items

pub each-preserved : goal.each-preserved
each-preserved c u f paths is =
    let marks = c.marks-marks.result.now.marks in
    let places = map (λ e. e.0) marks in
    elim c.match-entry.branch [
      | in-Some+in_ok-note_mark w ↦ (
          let place : ℕ × ℕ = (w.in-Some.entry.row, w.in-Some.entry.number) in
          let next = next_place marks c.each.at (entry_of w.in-Some.entry) (sym w.in-Some.ensures.is) in
          subst (λ found. Adds (IsOfMarks u f paths (take (c.each.at + 1) places)) c.args.found.now.items found.items) (sym w.found-is)
          (subst (λ ps. Adds (IsOfMarks u f paths ps) c.args.found.now.items w.note_mark.new.found.items) (sym next)
          (mark_more u f paths (take c.each.at places) place (fresh_place marks c.each.at place w.in-Some.ensures.only) c.args.found.now.items c.each.found.items w.note_mark.new.found.items
          (c.each.invariant u f paths is) (w.in_ok-note_mark.ensures u f paths is))))
      | in_default w ↦ (let there = some_there marks c.each.at (omega (arith, c.each-test.true, c.len-at-end.ensures)) in absurd (none_there there.0 (w.in_default.ensures.is ∙ there.1)))
    ]

pub returns : goal.returns
returns c u f paths is =
    let marks = c.marks-marks.result.now.marks in
    let places = map (λ e. e.0) marks in
    let past : length places ≤ c.each.at = omega (arith, length-map marks (λ e. e.0), c.len-at-end.ensures, c.each-test.false) in
    let whole = subst (λ ps. Adds (IsOfMarks u f paths ps) c.args.found.now.items c.each.found.items) (take_all c.each.at places past) (c.each.invariant u f paths is) in
    subst (λ (rows : Rows). Adds (IsOfMarks u f paths (map (λ e. e.0) rows.marks)) c.args.found.now.items c.each.found.items) (c.marks-marks.ensures ∙ ap (λ (v : RuleView). v.notes.marks) c.view.ensures) whole
