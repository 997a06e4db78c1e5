use Rattle.std.proofs.Common.{◌≡◌, ◌∙◌, ◌<◌, ap, arith, length, subst}
use Rattle.tsa_rules_table.specs.Rows.{rows_in}
use Rattle.tsa_rules.specs.Points.{points_of}
use Rattle.tsa_flow_function.specs.RuleView.{RuleView}
use Rattle.tsa_warn_function.specs.Adding.{Adds}
use Rattle.tsa_warn_function.proofs.Pathwise.{all_points, Before, no_points, point_more}
use Rattle.tsa_warn_function.proofs.points.note_points.Goals as goal

pub each-init : goal.each-init
each-init c u f paths is = no_points u f paths c.args.found.now.items

pub each-preserved : goal.each-preserved
each-preserved c u f paths is =
    let counted : c.rows-point-end.result ≡ length (points_of f) = c.rows-point-end.ensures ∙ (ap rows_in c.marks.ensures ∙ (ap (λ (v : RuleView). rows_in v.notes.marks) c.view.ensures ∙ is.view.rows)) in
    let less : c.each.point < length (points_of f) = omega (arith, c.each-test.true, counted) in
    point_more u f paths c.each.point c.args.found.now.items c.each.found.items c.note_point.new.found.items (c.each.invariant u f paths is) (c.in_ok-note_point.ensures u f paths is less)

pub returns : goal.returns
returns c u f paths is =
    let counted : c.rows-point-end.result ≡ length (points_of f) = c.rows-point-end.ensures ∙ (ap rows_in c.marks.ensures ∙ (ap (λ (v : RuleView). rows_in v.notes.marks) c.view.ensures ∙ is.view.rows)) in
    let end : c.each.point ≡ length (points_of f) = omega (arith, c.each-test.false, c.each.auto.point-end, counted) in
    all_points u f paths c.args.found.now.items c.each.found.items (subst (λ n. Adds (Before u f paths n) c.args.found.now.items c.each.found.items) end (c.each.invariant u f paths is))
