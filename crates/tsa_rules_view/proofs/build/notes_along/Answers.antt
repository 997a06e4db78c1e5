use Rattle.std.proofs.Common.{◌≡◌, ◌∙◌, [], map, subst, IfOk}
use Rattle.tsa_core_points.specs.Walks.{points_along, walk}
use Rattle.tsa_core_points.specs.Steps.{step_shape}
use Rattle.tsa_profile_points.specs.PointAnswers.{around_of}
use Rattle.tsa_rules_points.specs.Notes.{AreNotes}
use Rattle.tsa_rules_view.specs.BodyViews.{AreNoted}
use Rattle.tsa_rules_view.proofs.HandedResults.{told_twice}
use Rattle.tsa_rules_view.proofs.build.notes_along.Goals as goal

pub returns-clause-noted : goal.returns-clause-noted
returns-clause-noted c =
    let a = around_of c.args.frame.around in
    let k = c.args.frame.kind in
    let paths = c.args.paths.now in
    let qs = points_along (walk c.args.scope.now []) (map step_shape c.args.steps.now) in
    told_twice c.notes_of-noted.result (λ x. AreNotes a k c.in_ok-numbers.numbers qs x.notes) (λ x. x.numbers ≡ c.in_ok-numbers.numbers) (AreNoted a k paths qs)
    (λ x notes numbers.
    record { notes = subst (λ ps. AreNotes a k ps qs x.notes) c.in_ok-numbers.ensures notes; numbers = numbers ∙ c.in_ok-numbers.ensures })
    (subst (λ w. IfOk c.notes_of-noted.result (λ x. AreNotes a k c.in_ok-numbers.numbers (points_along w (map step_shape c.args.steps.now)) x.notes)) c.in_ok-walk.ensures c.notes_of-noted.ensures.notes)
    c.notes_of-noted.ensures.numbers
