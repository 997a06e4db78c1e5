use Rattle.std.proofs.Common.{◌∙◌, ◌+◌, ap, if◌then◌else◌}
use Rattle.tsa_core_points.specs.Points.{placed}
use Rattle.tsa_tree.specs.statements.Shapes.{action_shape}
use Rattle.tsa_profile_points.specs.PointAnswers.{around_of}
use Rattle.tsa_profile_points.proofs.Judges.{behind_one}
use Rattle.tsa_profile_points.proofs.points.Spot.note_point.Goals as goal

pub returns : goal.returns
returns c =
    behind_one (around_of c.args.self.around) c.args.found.now
    (record { failure = c.earlier-found.result; tries = c.count-found.result; gathered = c.put_point.new.gathered })
    (placed c.args.self.scope.now (action_shape c.args.point.now.action) c.args.point.now.span) c.in_ok-failure.failure c.in_ok-failure.ensures.failure
    c.in_ok-failure.ensures.paths c.earlier-found.ensures
    (c.count-found.ensures ∙ ap (λ b. c.args.found.now.tries + (if b then 1 else 0)) c.is_begun_by_a_try.ensures)
