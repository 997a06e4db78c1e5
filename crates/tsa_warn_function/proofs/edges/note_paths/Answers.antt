use Rattle.std.proofs.Common.{◌≡◌, ◌∙◌, ap, arith, length}
use Rattle.tsa_flow_function.specs.RuleView.{RuleView}
use Rattle.tsa_warn_function.specs.Passes.{IsOfEdges}
use Rattle.tsa_warn_function.proofs.Notes.{some_there}
use Rattle.tsa_warn_function.proofs.Pathwise.{all_paths, edges_there, none_yet, path_more}
use Rattle.tsa_warn_function.proofs.edges.note_paths.Goals as goal

pub each-init : goal.each-init
each-init c u f paths is less = none_yet (IsOfEdges u f paths c.args.point) c.args.found.now.items

pub each-preserved : goal.each-preserved
each-preserved c u f paths is less =
    let counted : c.caps-cap-end.result ≡ length paths = c.caps-cap-end.ensures ∙ (ap (λ (v : RuleView). length v.numbers) c.view.ensures ∙ ap length is.view.numbered) in
    let there = some_there paths c.each.cap (omega (arith, c.each-test.true, counted)) in
    path_more (IsOfEdges u f paths c.args.point) c.each.cap c.args.found.now.items c.each.found.items c.note_edges.new.found.items (c.each.invariant u f paths is less)
    (c.in_ok-note_edges.ensures u f paths there.0 is less there.1)

pub returns : goal.returns
returns c u f paths is less =
    let counted : c.caps-cap-end.result ≡ length paths = c.caps-cap-end.ensures ∙ (ap (λ (v : RuleView). length v.numbers) c.view.ensures ∙ ap length is.view.numbered) in
    all_paths (IsOfEdges u f paths c.args.point) c.each.cap (λ x h. omega (arith, edges_there u f paths c.args.point x h, counted, c.each-test.false)) c.args.found.now.items c.each.found.items
    (c.each.invariant u f paths is less)
