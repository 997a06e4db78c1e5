use Rattle.std.proofs.Common.{◌≡◌, ◌∙◌, ap, arith, length}
use Rattle.tsa_flow_function.specs.RuleView.{RuleView}
use Rattle.tsa_warn_function.specs.Passes.{IsOfReturns}
use Rattle.tsa_warn_function.proofs.Notes.{some_there}
use Rattle.tsa_warn_function.proofs.Pathwise.{all_paths, none_yet, one_return, path_more, return_there}
use Rattle.tsa_warn_function.proofs.points.note_leaving.Goals as goal

pub each-init : goal.each-init
each-init c u f paths is less = none_yet (IsOfReturns u f paths c.args.point) c.args.found.now.items

pub each-preserved : goal.each-preserved
each-preserved c u f paths is less =
    let counted : c.caps-cap-end.result ≡ length paths = c.caps-cap-end.ensures ∙ (ap (λ (v : RuleView). length v.numbers) c.view.ensures ∙ ap length is.view.numbered) in
    let there = some_there paths c.each.cap (omega (arith, c.each-test.true, counted)) in
    path_more (IsOfReturns u f paths c.args.point) c.each.cap c.args.found.now.items c.each.found.items c.note.new.found.items (c.each.invariant u f paths is less)
    (one_return u f paths c.args.point less there.0 c.each.cap there.1 c.spot_of.result c.spot_of.ensures.point c.spot_of.ensures.cap c.each.found.items c.note.new.found.items
    (c.in_ok-note.ensures u f there.0 (c.spot_of.ensures.is u f paths there.0 is less there.1)))

pub returns : goal.returns
returns c u f paths is less =
    let counted : c.caps-cap-end.result ≡ length paths = c.caps-cap-end.ensures ∙ (ap (λ (v : RuleView). length v.numbers) c.view.ensures ∙ ap length is.view.numbered) in
    all_paths (IsOfReturns u f paths c.args.point) c.each.cap (λ x h. omega (arith, return_there u f paths c.args.point x h, counted, c.each-test.false)) c.args.found.now.items c.each.found.items
    (c.each.invariant u f paths is less)
